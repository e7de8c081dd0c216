-- Beyond 1 in size an arc sine is that of 1 with the sign, which is computed; the rest follows by the definitions.
use Rattle.std.specs.Prelude.{if◌then◌else◌}
use mathlib.Core.Path.{◌≡◌, refl, ap, ◌∙◌}
use mathlib.Core.Bool.{Bool, true, false}
use lib.Ieee.{Float, of_bits, of_fields, add, sub, mul, div, neg, sum, round, units, odd, size, span, climb, le, lt, eq}
use Rattle.scalar.specs.Arith.{◌⊕◌, ◌⊖◌, ◌⊗◌, f0, f1}
use Rattle.scalar.specs.Scalar.{is_finite}
use Rattle.root.specs.Root.{root_of}
use Rattle.trig.specs.Arctangent.{half_pi, atan2_of, angle_of, half_plane_angle, quadrant_angle, atan_of, atan_small, within_one, asin_of}
use Rattle.vector.specs.Vector.{dot_of}
use Rattle.vector.specs.declared.Vec3.{Vec3}
use Rattle.joints.specs.Limit.{obtuse, wrapped, angle_about, outside_of, angle_correction}
use Rattle.joints.specs.declared.AngleLimit.{AngleLimit}
use Rattle.joints.specs.declared.AngleCorrection.TheVariants.{None, Some}
use Rattle.joints.specs.RightAngle.{BeyondOne, quarter_turn, argument, angle_beyond, is_some, RightAngle}

-- 1 and π/2 with a sign
signed : Bool → Float → Float
signed b x = if b then neg x else x

at_one : (b : Bool) → atan2_of (signed b f1) (root_of ((f1 ⊖ signed b f1) ⊗ (f1 ⊕ signed b f1))) ≡ signed b half_pi
unfolding signed of_bits of_fields add sub mul div neg sum round units odd size span climb le lt eq is_finite root_of atan2_of angle_of half_plane_angle quadrant_angle atan_of atan_small
at_one true = refl
at_one false = refl

arcsine : (v : Float) → BeyondOne v → asin_of v ≡ quarter_turn v
unfolding asin_of within_one signed
arcsine v beyond = rw (beyond.0, beyond.1) (at_one (lt v f0))

some_where : (b : Bool) → (c : Vec3) → is_some (if b then Some c else None) ≡ b
some_where true c = refl
some_where false c = refl

corrected : (l : AngleLimit) → (n n₁ n₂ : Vec3) → (m : Float) → BeyondOne (argument n n₁ n₂) → is_some (angle_correction l n n₁ n₂ m) ≡ outside_of l (angle_beyond n n₁ n₂)
unfolding angle_correction angle_about
corrected l n n₁ n₂ m beyond = some_where _ _ ∙ ap (λ (φ : Float). outside_of l (wrapped (obtuse φ (dot_of n₁ n₂)))) (arcsine (argument n n₁ n₂) beyond)

pub right_angle : RightAngle
unfolding of_bits of_fields add sub mul div neg sum round units odd size span climb le lt eq is_finite root_of atan2_of angle_of half_plane_angle quadrant_angle atan_of atan_small within_one asin_of obtuse wrapped
right_angle =
    record {
      arcsine = arcsine;
      corrected = corrected;
      next_above = refl;
      next_below = refl;
      last_above = refl;
      last_below = refl;
      infinite_above = refl;
      infinite_below = refl;
      not_a_number = refl;
      apart = λ cosine below. rw below refl;
    }
