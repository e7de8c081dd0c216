-- What a spherical joint prepares, in the Rust's form, and the corrections of its swing and its twist: Müller 2020, equations (22) to (24), with the swing axes for a, the twist axes for b and the longest correction of the Rust's own. Definitions only.
use Rattle.std.specs.Prelude.{Float, if◌then◌else◌}
use Rattle.std.specs.Float.Ieee.{neg, lt, le}
use Rattle.scalar.specs.Arith.{◌⊗◌, half, f2, epsilon, pi}
use Rattle.vector.specs.Vector.{add_of, sub_of, scale_of, div_of, dot_of, cross_of, length_of}
use Rattle.vector.specs.declared.Vec3.{Vec3}
use Rattle.joints.specs.Limit.{angle_correction}
use Rattle.joints.specs.declared.AngleLimit.{AngleLimit}
use Rattle.joints.specs.declared.AngleCorrection.{AngleCorrection}
use Rattle.joints.specs.declared.AngleCorrection.TheVariants.{None}

-- about n = a₁ × a₂, brought to length 1
unfoldable pub swing_correction : AngleLimit → Vec3 → Vec3 → AngleCorrection
swing_correction l a₁ a₂ =
    let n = cross_of a₁ a₂ in
    if le (length_of n) epsilon then None else angle_correction l (div_of n (length_of n)) a₁ a₂ pi

-- (23), (24): b - (n · b) n
unfoldable pub perpendicular : Vec3 → Vec3 → Vec3
perpendicular b n = sub_of b (scale_of n (dot_of n b))

-- the longest correction: 2π, and h where the swing is 120° or more
unfoldable pub max_twist : Float → Float → Float
max_twist cosine h = if lt (neg half) cosine then f2 ⊗ pi else h

-- (22) to (24): about n = a₁ + a₂, between b₁ and b₂ at a right angle to n, all brought to length 1
unfoldable pub twist_correction : AngleLimit → Vec3 → Vec3 → Vec3 → Vec3 → Float → AngleCorrection
twist_correction l a₁ a₂ b₁ b₂ h =
    let s = add_of a₁ a₂ in
    let n = div_of s (length_of s) in
    let n₁ = perpendicular b₁ n in
    let n₂ = perpendicular b₂ n in
    if le (length_of s) epsilon then None
    else if le (length_of n₁) epsilon then None
    else if le (length_of n₂) epsilon then None
    else angle_correction l n (div_of n₁ (length_of n₁)) (div_of n₂ (length_of n₂)) (max_twist (dot_of a₁ a₂) h)
