-- The first of the joints are warmed.
use mathlib.Core.Path.{◌≡◌}
use Rattle.numbers.specs.Lists.{after}
use Rattle.loader.specs.Parts.{linkage_in}
use Rattle.tick.specs.Tick.{loaded, warm_start_next}
use Rattle.tick.proofs.linked.Tick.warm_start.Given as goal

abbrev pub invariant-loop-j : goal.invariant-loop-j
invariant-loop-j l =
    let K = linkage_in l.self.linkage in
    let s = l.self.state.now in
    l.bodies ≡ after (warm_start_next K s) (loaded K s) l.j
