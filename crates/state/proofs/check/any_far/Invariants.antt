use mathlib.Core.Path.{◌≡◌}
use Rattle.state.specs.Parts.{any_far}
use Rattle.state.proofs.check.any_far.Given as goal

abbrev pub invariant-loop-i : goal.invariant-loop-i
invariant-loop-i l = l.far ≡ any_far l.i l.state
