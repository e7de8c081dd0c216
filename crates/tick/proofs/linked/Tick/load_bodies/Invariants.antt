-- The first of the bodies are as the state has them.
use mathlib.Core.Path.{◌≡◌}
use lib.ListN.{length, replicate}
use Rattle.solver_body.specs.Body.{solver_body_of, dummy_body}
use Rattle.numbers.specs.Lists.{after}
use Rattle.loader.specs.Parts.{linkage_in}
use Rattle.state.specs.State.{body_at}
use Rattle.tick.specs.Tick.{put}
use Rattle.tick.proofs.linked.Tick.load_bodies.Given as goal

abbrev pub invariant-loop-i : goal.invariant-loop-i
invariant-loop-i l =
    let K = linkage_in l.self.linkage in
    l.bodies ≡ after (λ i b. put K i (solver_body_of (body_at l.self.state.now i)) b) (replicate (length K.bodies) dummy_body) l.i
