use Rattle.std.proofs.Common.{◌≡◌}
use Rattle.std.specs.Slice.Iter.{chunks_exact_size}
use Rattle.card.specs.Parts.{sizes_of, joint_faults}
use Rattle.card.proofs.Editions.{cells}
use Rattle.card.proofs.Faulty.{found}
use Rattle.card.proofs.checks.joints_faults.Given as goal

abbrev pub invariant-loop-part : goal.invariant-loop-part
invariant-loop-part l = let cs = (cells l.edition).joint in (chunks_exact_size l.part-iterator ≡ (sizes_of l.edition).joint_bytes) × (l.f ≡ found cs (joint_faults cs) l.yielded)
