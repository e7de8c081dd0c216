use mathlib.Core.Bool.{and_assoc, and-true}
use Rattle.numbers.specs.Lists.{all}
use Rattle.tick.proofs.finite.Vec3Finite.finite.Goals as goal

pub returns : goal.returns
unfolding all
returns c = simp (c.is_finite.ensures, c.is_finite-2.ensures, c.is_finite-3.ensures, and_assoc, and-true)
