use mathlib.Core.Path.{◌≡◌}
use Rattle.state.specs.State.{bad_marks}
use Rattle.state.proofs.check.bad_marks.Given as goal

abbrev pub invariant-loop-j : goal.invariant-loop-j
invariant-loop-j l = l.bad ≡ bad_marks l.bodies l.j l.state
