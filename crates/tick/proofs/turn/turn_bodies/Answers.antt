use native.Mathlib.Omega.{arith}
use mathlib.Core.Path.{sym, ap}
use lib.ListN.{set}
use Rattle.numbers.proofs.Loops.{after_none, after_turn}
use Rattle.loader.specs.Parts.{linkage_in}
use Rattle.tick.specs.Body.{turned_body}
use Rattle.tick.proofs.Turning.{turned_is, turned_done}
use Rattle.tick.proofs.turn.turn_bodies.Goals as goal

pub loop-i-init : goal.loop-i-init
loop-i-init c = sym (after_none _ _)

pub loop-i-preserved : goal.loop-i-preserved
unfolding turned_body
loop-i-preserved c =
    let same = turned_is (linkage_in c.args.linkage.now) c.args.state.now c.loop-i.i (omega arith) c.read.ensures _ c.turned.ensures in
    after_turn _ _ c.loop-i.invariant (ap (λ b. set c.loop-i.turned c.loop-i.i b) same)

pub returns : goal.returns
returns c = turned_done (linkage_in c.args.linkage.now) c.args.state.now c.args.turned.now c.requires.1 c.loop-i.invariant (omega arith) (omega arith)
