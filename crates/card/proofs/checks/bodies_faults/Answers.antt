use Rattle.std.proofs.Common.{arith, refl, ◌∙◌}
use Rattle.card.specs.Card.{body}
use Rattle.card.specs.Parts.{body_faults}
use Rattle.card.proofs.Chunks.{all_read}
use Rattle.card.proofs.Faulty.{all_found}
use Rattle.card.proofs.checks.bodies_faults.Goals as goal

pub returns : goal.returns
returns c =
    let e = c.chunks_exact-part-items.ensures in
    let p = c.loop-part in
    p.invariant.1 ∙ all_found body body_faults p.yielded (all_read body 94 refl (omega arith) c.args.card.now c.args.at c.args.count c.requires e.size e.rest (omega arith) c.into_iter-part-iterator.ensures.into_iter_gives p.yielded _ _ p.yielded_by c.in-None.is c.next.ensures.steps)
