use Rattle.std.proofs.Common.{◌≡◌}
use Rattle.std.specs.Slice.Iter.{chunks_exact_size}
use Rattle.card.specs.Card.{body}
use Rattle.card.specs.Parts.{body_faults}
use Rattle.card.proofs.Faulty.{found}
use Rattle.card.proofs.checks.bodies_faults.Given as goal

abbrev pub invariant-loop-part : goal.invariant-loop-part
invariant-loop-part l = (chunks_exact_size l.part-iterator ≡ 94) × (l.f ≡ found body body_faults l.yielded)
