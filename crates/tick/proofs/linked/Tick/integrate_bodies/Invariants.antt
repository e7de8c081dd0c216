-- The first of the bodies are integrated.
use mathlib.Core.Path.{◌≡◌}
use lib.ListN.{get_or}
use Rattle.solver_body.specs.Body.{dummy_body}
use Rattle.numbers.specs.Lists.{after}
use Rattle.loader.specs.Parts.{linkage_in}
use Rattle.tick.specs.Tick.{put, integrated_at, warm_started}
use Rattle.tick.proofs.linked.Tick.integrate_bodies.Given as goal

abbrev pub invariant-loop-i : goal.invariant-loop-i
invariant-loop-i l =
    let K = linkage_in l.self.linkage in
    l.bodies ≡ after (λ i b. put K i (integrated_at K i (get_or b i dummy_body)) b) (warm_started K l.self.state.now) l.i
