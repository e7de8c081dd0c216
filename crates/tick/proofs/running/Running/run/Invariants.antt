-- So many ticks are done.
use mathlib.Core.Path.{◌≡◌}
use Rattle.loader.specs.Parts.{linkage_in}
use Rattle.tick.specs.Work.{ran, ticks_of}
use Rattle.tick.proofs.running.Running.run.Given as goal

abbrev pub invariant-loop-done : goal.invariant-loop-done
invariant-loop-done l =
    let r = l.initial.self in
    (l.self.own ≡ r.own) × (ran 0 l.done l.self.state.now ≡ ticks_of (linkage_in r.own) r.state.now l.done)
