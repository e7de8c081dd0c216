-- A stop at a right angle (document 02, point 2): an angle limit whose arc sine has an argument above 1 in size. Definitions only.
use Rattle.std.specs.Prelude.{◌≡◌, Bool, true, false, Float, if◌then◌else◌}
use Rattle.std.specs.Float.{nan}
use Rattle.std.specs.Float.Ieee.{neg, lt}
use Rattle.scalar.specs.Arith.{f32, f0, f1}
use Rattle.scalar.specs.Scalar.{abs_of, is_finite}
use Rattle.trig.specs.Arctangent.{half_pi, asin_of}
use Rattle.vector.specs.Vector.{dot_of, cross_of}
use Rattle.vector.specs.declared.Vec3.{Vec3}
use Rattle.joints.specs.Limit.{obtuse, wrapped, outside_of, angle_correction}
use Rattle.joints.specs.declared.AngleLimit.{AngleLimit}
use Rattle.joints.specs.declared.AngleCorrection.{AngleCorrection}
use Rattle.joints.specs.declared.AngleCorrection.TheVariants.{None, Some}

-- finite and above 1 in size
abbrev pub BeyondOne : Float → Type 0
BeyondOne v = (is_finite v ≡ true) × (lt f1 (abs_of v) ≡ true)

-- π/2 with v's sign
abbrev pub quarter_turn : Float → Float
quarter_turn v = if lt v f0 then neg half_pi else half_pi

-- what a limit takes the arc sine of
abbrev pub argument : Vec3 → Vec3 → Vec3 → Float
argument n n₁ n₂ = dot_of (cross_of n₁ n₂) n

-- the angle that the Rust makes of a quarter turn
abbrev pub angle_beyond : Vec3 → Vec3 → Vec3 → Float
angle_beyond n n₁ n₂ = wrapped (obtuse (quarter_turn (argument n n₁ n₂)) (dot_of n₁ n₂))

abbrev pub is_some : AngleCorrection → Bool
is_some None = false
is_some (Some c) = true

pub record RightAngle : Type 0 where
  pub arcsine : (v : Float) → BeyondOne v → asin_of v ≡ quarter_turn v
  -- a correction exactly where the angle lies outside min and max
  pub corrected :
      (l : AngleLimit) → (n n₁ n₂ : Vec3) → (m : Float) → BeyondOne (argument n n₁ n₂) → is_some (angle_correction l n n₁ n₂ m) ≡ outside_of l (angle_beyond n n₁ n₂)
  -- computed: next to 1 and -1, the last f32s, what is not finite
  pub next_above : asin_of (f32 0x3f80_0001) ≡ f32 0x3fc9_0fdb
  pub next_below : asin_of (f32 0xbf80_0001) ≡ f32 0xbfc9_0fdb
  pub last_above : asin_of (f32 0x7f7f_ffff) ≡ f32 0x3fc9_0fdb
  pub last_below : asin_of (f32 0xff7f_ffff) ≡ f32 0xbfc9_0fdb
  pub infinite_above : asin_of (f32 0x7f80_0000) ≡ nan
  pub infinite_below : asin_of (f32 0xff80_0000) ≡ nan
  pub not_a_number : asin_of nan ≡ nan
  -- -π/2 with the axes apart is one step below -π/2
  pub apart : (cosine : Float) → lt cosine f0 ≡ true → wrapped (obtuse (f32 0xbfc9_0fdb) cosine) ≡ f32 0xbfc9_0fdc
