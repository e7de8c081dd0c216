-- What a fixed angle prepares, in the Rust's form, and its error: Müller 2020's of a fixed joint's orientations, with a sign and an order of factors of the Rust's own. Definitions only.
use Rattle.std.specs.Float.Ieee.{neg}
use Rattle.scalar.specs.Arith.{f2}
use Rattle.vector.specs.Vector.{scale_of}
use Rattle.vector.specs.Rotation.{product_of, inverse_of, vector_part}
use Rattle.vector.specs.declared.Vec3.{Vec3}
use Rattle.vector.specs.declared.Quat.{Quat}

-- Δq = -2 (q₀ q₁ q₂⁻¹).xyz, with q₀ the difference at the start and q₁, q₂ the bodies' turns since
unfoldable pub rotation_difference_of : Quat → Quat → Quat → Vec3
rotation_difference_of q₀ q₁ q₂ = scale_of (vector_part (product_of (product_of q₀ q₁) (inverse_of q₂))) (neg f2)
