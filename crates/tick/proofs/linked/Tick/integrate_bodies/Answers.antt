use native.Mathlib.Omega.{arith}
use mathlib.Core.Path.{◌≡◌, sym, ap, ◌∙◌}
use lib.ListN.{length}
use Rattle.numbers.proofs.Loops.{after_none, after_turn, after_done}
use Rattle.loader.specs.Parts.{linkage_in}
use Rattle.tick.specs.Tick.{put, pre_solve_of}
use Rattle.tick.proofs.Lengths.{warmed_length}
use Rattle.tick.proofs.Turns.{integrated_is}
use Rattle.tick.proofs.linked.Tick.integrate_bodies.Goals.{Start}
use Rattle.tick.proofs.linked.Tick.integrate_bodies.Goals as goal

many : (c : Start) → length c.args.bodies.now ≡ length c.args.self.now.linkage.bodies.now
many c = ap length c.requires ∙ warmed_length (linkage_in c.args.self.now.linkage) c.args.self.now.state.now

pub loop-i-init : goal.loop-i-init
loop-i-init c = c.requires ∙ sym (after_none _ _)

pub invariant_of-at : goal.invariant_of-at
invariant_of-at c = record { inside = omega (arith, many (goal.at.invariant_of-at c).Start) }

pub put-requires : goal.put-requires
put-requires c = omega (arith, many (goal.at.put-requires c).Start)

pub loop-i-preserved : goal.loop-i-preserved
loop-i-preserved c =
    let K = linkage_in c.args.self.now.linkage in
    let i = c.loop-i.i in
    let same = integrated_is K i c.loop-i.bodies (omega arith) c.inertia.ensures _ c.integrate-b.ensures in
    after_turn _ _ c.loop-i.invariant (c.put.ensures ∙ ap (λ b. put K i b c.loop-i.bodies) same)

pub returns : goal.returns
unfolding pre_solve_of
returns c = let m = many (goal.at.returns c).Start in after_done _ _ c.loop-i.invariant (omega (arith, m)) (omega (arith, m))
