use Rattle.std.proofs.Common.{length, arith, refl, length-append}
use lib.ListN.{length-set}
use Rattle.card.specs.Card.{body}
use Rattle.loader.proofs.Records.{row, row_next, row_end}
use Rattle.state.proofs.Starting.{none_done, next_body}
use Rattle.state.proofs.start.write_bodies.Goals as goal

pub loop-i-init : goal.loop-i-init
loop-i-init c =
    let parts = c.chunks_exact-parts.ensures in
    let items = c.enumerate-i-items.ensures in
    (row body c.args.card.now c.args.at _ 94 refl (omega arith) c.requires.0 parts.size parts.rest (omega arith) items.source items.count c.into_iter-i-iterator.ensures.into_iter_gives, refl, rw none_done)

pub loop-i-preserved : goal.loop-i-preserved
loop-i-preserved c =
    let l = c.loop-i in
    let next = row_next l.invariant.0 l.yielded _ l.yielded_by c.in-Some.is c.next.ensures.steps in
    let written = rw next.1 at c.write.ensures in (
      next.0,
      rw c.write.ensures (simp length-set l.invariant.1),
      rw length-append (next_body c.args.card.now c.args.at (length l.yielded) c.args.state.now (omega (arith, next.2)) l.invariant.2 next.3 c.start_body.ensures written),
    )

pub returns : goal.returns
returns c =
    let l = c.loop-i in
    rw (row_end l.invariant.0 l.yielded _ l.yielded_by c.in-None.is c.next.ensures.steps) at l.invariant.2
