-- Limits of a distance and of an angle: Müller 2020, equation (25) and the algorithm for limited joint angles; the bound of 2^-23 and the longest correction are the Rust's. Definitions only.
use Rattle.std.specs.Prelude.{Bool, ◌||◌, Float, if◌then◌else◌}
use Rattle.std.specs.Float.Ieee.{lt, le}
use Rattle.scalar.specs.Arith.{◌⊖◌, f0, epsilon, pi, tau}
use Rattle.scalar.specs.Scalar.{clamp_of}
use Rattle.trig.specs.Arctangent.{asin_of}
use Rattle.vector.specs.Vector.{origin, neg_of, scale_of, div_of, dot_of, cross_of, length_squared_of, length_of, clamp_length_max}
use Rattle.vector.specs.Rotation.{turn_of, of_angle_in_reach}
use Rattle.vector.specs.declared.Vec3.{Vec3}
use Rattle.joints.specs.declared.DistanceLimit.{DistanceLimit}
use Rattle.joints.specs.declared.DistanceCorrection.{DistanceCorrection}
use Rattle.joints.specs.declared.AngleLimit.{AngleLimit}
use Rattle.joints.specs.declared.AngleCorrection.{AngleCorrection}
use Rattle.joints.specs.declared.AngleCorrection.TheVariants.{None, Some}

abbrev pub zero_limit : DistanceLimit
zero_limit = record { min = f0; max = f0 }

abbrev pub uncorrected : DistanceCorrection
uncorrected = record { direction = origin; magnitude = f0 }

-- (25): the direction and the amount by which the separation s leaves the limits
unfoldable pub distance_correction : DistanceLimit → Vec3 → DistanceCorrection
distance_correction l s =
    let d = length_of s in
    if le (length_squared_of s) epsilon then uncorrected
    else if lt d l.min then record { direction = div_of s d; magnitude = l.min ⊖ d }
    else if lt l.max d then record { direction = div_of (neg_of s) d; magnitude = d ⊖ l.max }
    else uncorrected

-- (25) along one axis: the correction itself
unfoldable pub axis_correction : DistanceLimit → Vec3 → Vec3 → Vec3
axis_correction l s axis =
    let a = dot_of s axis in
    if lt a l.min then scale_of axis (l.min ⊖ a)
    else if lt l.max a then scale_of (neg_of axis) (a ⊖ l.max)
    else origin

-- where n₁ · n₂ < 0, φ is π - φ
unfoldable pub obtuse : Float → Float → Float
obtuse φ cosine = if lt cosine f0 then pi ⊖ φ else φ

-- where φ > π, φ is φ - 2π
unfoldable pub wrapped : Float → Float
wrapped φ = if lt pi φ then φ ⊖ tau else φ

-- the angle φ from n₁ to n₂ about n
unfoldable pub angle_about : Vec3 → Vec3 → Vec3 → Float
angle_about n n₁ n₂ = wrapped (obtuse (asin_of (dot_of (cross_of n₁ n₂) n)) (dot_of n₁ n₂))

-- φ is below min or above max
abbrev pub outside_of : AngleLimit → Float → Bool
outside_of l φ = lt φ l.min || lt l.max φ

abbrev pub clamped : AngleLimit → Float → Float
clamped l φ = clamp_of φ l.min l.max

-- the cross product of n₁, turned about n by φ clamped, and n₂, at most m long; none where φ keeps the limits or is a NaN
unfoldable pub angle_correction : AngleLimit → Vec3 → Vec3 → Vec3 → Float → AngleCorrection
angle_correction l n n₁ n₂ m =
    let φ = angle_about n n₁ n₂ in
    if outside_of l φ
    then Some (clamp_length_max (cross_of (turn_of (of_angle_in_reach n (clamped l φ)) n₁) n₂) m)
    else None
