use native.Mathlib.Omega.{arith}
use mathlib.Core.Path.{sym, ap, ◌∙◌}
use Rattle.solver_body.specs.Body.{solver_body_of}
use Rattle.numbers.proofs.Loops.{after_none, after_turn, after_done}
use Rattle.loader.specs.Parts.{linkage_in}
use Rattle.tick.specs.Tick.{put, loaded}
use Rattle.tick.proofs.linked.Tick.load_bodies.Goals as goal

pub loop-i-init : goal.loop-i-init
loop-i-init c = (rw c.requires at (c.fill.ensures.after (λ y h. h))) ∙ sym (after_none _ _)

pub loop-i-preserved : goal.loop-i-preserved
loop-i-preserved c =
    let K = linkage_in c.args.self.now.linkage in
    after_turn _ _ c.loop-i.invariant (c.put.ensures ∙ ap (λ b. put K c.loop-i.i b c.loop-i.bodies) (c.from-loaded.ensures ∙ ap solver_body_of c.read.ensures))

pub returns : goal.returns
unfolding loaded
returns c = after_done _ _ c.loop-i.invariant (omega (arith, c.fill.auto, c.requires)) (omega (arith, c.fill.auto, c.requires))
