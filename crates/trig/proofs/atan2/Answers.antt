-- Finite and not both zero.
use Rattle.std.proofs.Common.{◌≡◌, false, ◌&&◌}
use lib.Ieee.{eq}
use Rattle.scalar.specs.Arith.{f0}
use Rattle.scalar.proofs.Sizes.{abs-abs, abs_finite, abs_is_zero}
use Rattle.trig.proofs.atan2.Goals.{else-y-via-then-y+else-x, else-y-via-else-y}
use Rattle.trig.proofs.atan2.Goals as goal

pub angle-requires : goal.angle-requires
angle-requires c =
    let y = c.args.y in
    let x = c.args.x in
    let some : (eq y f0 && eq x f0) ≡ false =
    elim c.else-y.branch [
      | else-y-via-then-y+else-x w ↦ rw (w.if-y.true, w.if-x.false)
      | else-y-via-else-y w ↦ rw w.if-y.false
    ] in
    record { size_h = abs-abs y; size_w = abs-abs x; finite_h = cc (abs_finite y); finite_w = cc (abs_finite x); some = rw (abs_is_zero y, abs_is_zero x) some }
