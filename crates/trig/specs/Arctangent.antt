-- The arctangent, `atan2` and the arc sine of f32s (document 01, 'Arithmetic beneath'). Definitions only.
use Rattle.std.specs.Prelude.{ℕ, ◌+◌, ◌/◌, ◌%◌, ◌^◌, not, ◌&&◌, ℤ, pos, nat_lt, slice_index, Float, if◌then◌else◌}
use Rattle.std.specs.Float.{nan}
use Rattle.std.specs.Float.Ieee.{neg, lt, eq}
use Rattle.scalar.specs.Arith.{◌⊕◌, ◌⊖◌, ◌⊗◌, ◌⊘◌, f32, f0, f1, pi}
use Rattle.scalar.specs.Scalar.{abs_of, sign_bit, is_finite}
use Rattle.series.specs.Tables.{arcs}
use Rattle.root.specs.Root.{root_of}
use Rattle.trig.specs.Interpolation.{interpolated, over_unit, toward_zero}
use Rattle.trig.specs.Sine.{scaled_of, sixty_fourth}

abbrev pub f3 : Float
f3 = f32 0x4040_0000

abbrev pub half_pi : Float
half_pi = f32 0x3fc9_0fdb

-- under 2^-6
unfoldable pub atan_small : Float → Float
atan_small t = t ⊖ t ⊗ t ⊗ t ⊘ f3

-- at k / 2^24: step k / 2^14, fraction k mod 2^14 over 2^14; at 1 the last number
unfoldable pub atan_at : ℕ → ℤ
atan_at k =
    if nat_lt k (2 ^ 24) then interpolated 16384 (pos (slice_index arcs (k / 16384))) (pos (slice_index arcs (k / 16384 + 1))) (k % 16384)
    else toward_zero (pos (slice_index arcs 1024)) 64

-- of 0 ≤ t ≤ 1
unfoldable pub atan_of : Float → Float
atan_of t = if lt t sixty_fourth then atan_small t else over_unit (atan_at (scaled_of t))

-- the angle of (w, h), both sizes: t is the smaller over the larger
unfoldable pub quadrant_angle : Float → Float → Float
quadrant_angle h w = if lt w h then half_pi ⊖ atan_of (w ⊘ h) else atan_of (h ⊘ w)

-- of (x, h), h a size
unfoldable pub half_plane_angle : Float → Float → Float
half_plane_angle h x =
    let r = quadrant_angle h (abs_of x) in
    if lt x f0 then pi ⊖ r else r

-- of (x, y), finite and not both zero
unfoldable pub angle_of : Float → Float → Float
angle_of y x =
    let r = half_plane_angle (abs_of y) x in
    if sign_bit y then neg r else r

unfoldable pub atan2_of : Float → Float → Float
atan2_of y x =
    if not (is_finite y && is_finite x) then nan
    else if eq y f0 && eq x f0 then f0
    else angle_of y x

-- document 02, point 2: a finite number above 1 in size is read as 1 with its sign
unfoldable pub within_one : Float → Float
within_one v = if lt f1 (abs_of v) && is_finite v then (if lt v f0 then neg f1 else f1) else v

unfoldable pub asin_of : Float → Float
asin_of v =
    let u = within_one v in
    atan2_of u (root_of ((f1 ⊖ u) ⊗ (f1 ⊕ u)))
