-- Angle limits within reach: at most 7 in size, which refusal 19 asks of every card. What a limit clamps an angle to is then within what the sine takes.
use Rattle.std.specs.Prelude.{◌≡◌, true, false, T, Float, IfSome}
use Rattle.std.specs.Float.{nan}
use Rattle.std.specs.Float.Ieee.{le}
use Rattle.scalar.specs.Arith.{◌⊗◌, f7, half}
use Rattle.scalar.specs.Scalar.{abs_of}
use Rattle.trig.specs.Sine.{sixteen}
use Rattle.vector.specs.Rotation.{of_axis_angle, of_angle_in_reach}
use Rattle.vector.specs.declared.Vec3.{Vec3}
use Rattle.joints.specs.Limit.{outside_of, clamped}
use Rattle.joints.specs.declared.AngleLimit.{AngleLimit}
use Rattle.joints.specs.declared.Joint.{Joint}
use Rattle.joints.specs.declared.Joint.TheVariants.{Fixed, Revolute, Prismatic, Spherical, Distance}

abbrev pub InReach : AngleLimit → Type 0
InReach l = T (le (abs_of l.min) f7) × T (le (abs_of l.max) f7)

-- of every angle outside: what it is clamped to, the half whose sine is taken, and the turn, which is that by any angle; a NaN is not outside
pub record TurnsInReach (l : AngleLimit) : Type 0 where
  pub angle : (φ : Float) → outside_of l φ ≡ true → T (le (abs_of (clamped l φ)) f7)
  pub half_angle : (φ : Float) → outside_of l φ ≡ true → T (le (abs_of (clamped l φ ⊗ half)) sixteen)
  pub turn : (φ : Float) → outside_of l φ ≡ true → (n : Vec3) → of_angle_in_reach n (clamped l φ) ≡ of_axis_angle n (clamped l φ)
  pub no_angle : outside_of l nan ≡ false

-- P of each angle limit of a joint: a hinge's, and a ball's two
abbrev pub EachAngleLimit : (AngleLimit → Type 0) → Joint → Type 0
EachAngleLimit P (Fixed j) = Unit
EachAngleLimit P (Revolute j) = IfSome j.angle_limit P
EachAngleLimit P (Prismatic j) = Unit
EachAngleLimit P (Spherical j) = IfSome j.swing_limit P × IfSome j.twist_limit P
EachAngleLimit P (Distance j) = Unit
