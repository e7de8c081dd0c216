use Rattle.std.proofs.Common.{◌≤◌, arith, rules, refl, sym}
use Rattle.card.proofs.Editions.{cells, joint_width, joint_bytes_lem}
use Rattle.loader.specs.Linkage.{joint_of}
use Rattle.numbers.proofs.Loops.{after_none}
use Rattle.loader.proofs.Records.{row, row_next, fill_next, fill_end}
use Rattle.loader.proofs.load.load_joints.Goals as goal

pub loop-j-init-derived : goal.loop-j-init-derived
loop-j-init-derived c = let long : 123 ≤ c.sizes-size.result.joint_bytes = rw c.sizes-size.ensures (joint_bytes_lem c.args.edition).0 in search rules

pub loop-j-init : goal.loop-j-init
loop-j-init c =
    let parts = c.chunks_exact-parts.ensures in
    let items = c.enumerate-j-items.ensures in
    let e = c.args.edition in
    let s = c.sizes-size.ensures in
    (row (cells e).joint c.args.card.now c.args.first _ _ (joint_width e) (omega (arith, (joint_bytes_lem e).0)) c.requires.0 (rw s at parts.size) parts.rest (rw s (omega arith)) items.source items.count c.into_iter-j-iterator.ensures.into_iter_gives, sym (after_none _ _))

pub load_joint-requires : goal.load_joint-requires
load_joint-requires c =
    let next = row_next c.loop-j.invariant.0 c.loop-j.yielded _ c.loop-j.yielded_by c.in-Some.is c.next.ensures.steps in
    record { long = rw next.4 (omega arith); kind = rw next.3 (c.requires.1 _ next.2) }

pub loop-j-preserved : goal.loop-j-preserved
loop-j-preserved c =
    let l = c.loop-j in
    let step = c.next.ensures.steps in
    ((row_next l.invariant.0 l.yielded _ l.yielded_by c.in-Some.is step).0, fill_next l.invariant.0 l.yielded _ l.yielded_by c.in-Some.is step joint_of _ l.invariant.1 c.load_joint.ensures)

pub returns : goal.returns
returns c = fill_end c.loop-j.invariant.0 c.loop-j.yielded _ c.loop-j.yielded_by c.in-None.is c.next.ensures.steps joint_of _ c.loop-j.invariant.1 refl
