use Rattle.std.proofs.Common.{◌≤◌, arith, rules, ◌∙◌}
use Rattle.card.specs.Parts.{joint_faults}
use Rattle.card.proofs.Chunks.{all_read}
use Rattle.card.proofs.Editions.{cells, joint_width, joint_bytes_lem}
use Rattle.card.proofs.Faulty.{all_found}
use Rattle.card.proofs.checks.joints_faults.Goals as goal

pub loop-part-init-derived : goal.loop-part-init-derived
loop-part-init-derived c = let long : 123 ≤ c.sizes-size.result.joint_bytes = rw c.sizes-size.ensures (joint_bytes_lem c.args.edition).0 in search rules

pub returns : goal.returns
returns c =
    let e = c.chunks_exact-part-items.ensures in
    let p = c.loop-part in
    let s = c.sizes-size.ensures in
    let cs = (cells c.args.edition).joint in
    p.invariant.1 ∙ all_found cs (joint_faults cs) p.yielded (all_read cs _ (joint_width c.args.edition) (omega (arith, (joint_bytes_lem c.args.edition).0)) c.args.card.now c.args.at c.args.count c.requires (rw s at e.size) e.rest (rw s (omega arith)) c.into_iter-part-iterator.ensures.into_iter_gives p.yielded _ _ p.yielded_by c.in-None.is c.next.ensures.steps)
