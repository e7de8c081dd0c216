-- A zero has no sign.
use Rattle.std.proofs.Common.{◌≡◌, ℕ, zero, suc, ◌<◌, Bool, true, false, pos, refl, arith}
use lib.Ieee.{neg}
use Rattle.trig.specs.Interpolation.{over_unit}
use Rattle.trig.specs.Parts.{signed}
use Rattle.trig.proofs.WholeOverUnit.{minus_unit}
use Rattle.trig.proofs.over_unit.Goals.{else-negative-via-then-negative+else-m-gt0, else-negative-via-else-negative}
use Rattle.trig.proofs.over_unit.Goals as goal

plus : (s : Bool) (m : ℕ) → s ≡ false → over_unit (pos m) ≡ over_unit (signed s m)
plus s m e = rw e

none : (s : Bool) (m : ℕ) → m ≡ 0 → over_unit (pos m) ≡ over_unit (signed s m)
none true m e = rw e
none false m e = refl

minus : (s : Bool) (m : ℕ) → s ≡ true → 0 < m → neg (over_unit (pos m)) ≡ over_unit (signed s m)
minus s zero e h = absurd (omega arith)
minus s (suc m) e h = rw e (minus_unit m)

pub returns-then-m-gt0 : goal.returns-then-m-gt0
unfolding over_unit
returns-then-m-gt0 c = minus c.args.negative c.args.m c.if-negative.true c.if-m-gt0.true

pub returns-else-negative : goal.returns-else-negative
unfolding over_unit
returns-else-negative c = elim c.else-negative.branch [
  | else-negative-via-then-negative+else-m-gt0 w ↦ none c.args.negative c.args.m (omega arith)
  | else-negative-via-else-negative w ↦ plus c.args.negative c.args.m w.if-negative.false
]
