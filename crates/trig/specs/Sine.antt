-- Sine and cosine of an f32 (document 01, 'Arithmetic beneath'). Definitions only.
use Rattle.std.specs.Prelude.{ℕ, ◌+◌, ◌-◌, ◌*◌, ◌/◌, ◌%◌, ◌^◌, not, ℤ, pos, neg_ℤ, nat_le, slice_index, Float, if◌then◌else◌}
use Rattle.std.specs.Float.{nan}
use Rattle.std.specs.Float.Ieee.{neg, lt, le, to_unsigned}
use Rattle.scalar.specs.Arith.{◌⊖◌, ◌⊗◌, ◌⊘◌, f32, f0, f1, f2}
use Rattle.scalar.specs.Scalar.{abs_of}
use Rattle.series.specs.Tables.{sines}
use Rattle.trig.specs.Interpolation.{interpolated, over_unit, unit}

-- the largest size whose sine is worked out
abbrev pub sixteen : Float
sixteen = f32 0x4180_0000

-- 2^-6, from which on the tables are used
abbrev pub sixty_fourth : Float
sixty_fourth = f32 0x3c80_0000

abbrev pub f6 : Float
f6 = f32 0x40c0_0000

-- under 2^-6
unfoldable pub sin_small : Float → Float
sin_small a = a ⊖ a ⊗ a ⊗ a ⊘ f6

unfoldable pub cos_small : Float → Float
cos_small a = f1 ⊖ a ⊗ a ⊘ f2

-- k = floor(x·2^24): the product is exact
unfoldable pub scaled_of : Float → ℕ
scaled_of x = to_unsigned 64 (x ⊗ unit)

-- q = floor(k·2^33 / 3373259426): 65,536 to a step, 4,096 steps to a whole turn
abbrev pub phase_of : ℕ → ℕ
phase_of k = k * 2 ^ 33 / 3373259426

abbrev pub step_of : ℕ → ℕ
step_of q = q / 65536 % 4096

abbrev pub fraction_of : ℕ → ℕ
fraction_of q = q % 65536

-- T, the quarter table carried over the 4,096 steps by the sine's symmetry
unfoldable pub carried : ℕ → ℤ
carried s =
    let m = s % 4096 in
    if nat_le m 1024 then pos (slice_index sines m)
    else if nat_le m 2048 then pos (slice_index sines (2048 - m))
    else if nat_le m 3072 then neg_ℤ (pos (slice_index sines (m - 2048)))
    else neg_ℤ (pos (slice_index sines (4096 - m)))

unfoldable pub table_sine : ℕ → ℕ → Float
table_sine s f = over_unit (interpolated 65536 (carried s) (carried (s + 1)) f)

-- of a number that is at most 16 in size
unfoldable pub sin_in_reach : Float → Float
sin_in_reach a =
    let x = abs_of a in
    let q = phase_of (scaled_of x) in
    let r = table_sine (step_of q) (fraction_of q) in
    if lt x sixty_fourth then sin_small a
    else if lt a f0 then neg r
    else r

-- the cosine is 1,024 steps on
unfoldable pub cos_in_reach : Float → Float
cos_in_reach a =
    let x = abs_of a in
    let q = phase_of (scaled_of x) in
    if lt x sixty_fourth then cos_small a
    else table_sine (step_of q + 1024) (fraction_of q)

-- and of any number
unfoldable pub sin_of : Float → Float
sin_of a = if not (le (abs_of a) sixteen) then nan else sin_in_reach a

unfoldable pub cos_of : Float → Float
cos_of a = if not (le (abs_of a) sixteen) then nan else cos_in_reach a
