use Rattle.std.proofs.Common.{arith, refl, sym}
use Rattle.card.specs.Card.{body}
use Rattle.loader.specs.Linkage.{body_of}
use Rattle.numbers.proofs.Loops.{after_none}
use Rattle.loader.proofs.Records.{row, row_next, fill_next, fill_end}
use Rattle.loader.proofs.load.load_bodies.Goals as goal

pub loop-i-init : goal.loop-i-init
loop-i-init c =
    let parts = c.chunks_exact-parts.ensures in
    let items = c.enumerate-i-items.ensures in
    (row body c.args.card.now c.args.first _ 94 refl (omega arith) c.requires parts.size parts.rest (omega arith) items.source items.count c.into_iter-i-iterator.ensures.into_iter_gives, sym (after_none _ _))

pub loop-i-preserved : goal.loop-i-preserved
loop-i-preserved c =
    let l = c.loop-i in
    let step = c.next.ensures.steps in
    ((row_next l.invariant.0 l.yielded _ l.yielded_by c.in-Some.is step).0, fill_next l.invariant.0 l.yielded _ l.yielded_by c.in-Some.is step body_of _ l.invariant.1 c.load_body.ensures)

pub returns : goal.returns
returns c = fill_end c.loop-i.invariant.0 c.loop-i.yielded _ c.loop-i.yielded_by c.in-None.is c.next.ensures.steps body_of _ c.loop-i.invariant.1 refl
