-- An angular correction: Müller 2020, equations (11) to (16), with the Rust's whole turn. Definitions only.
use Rattle.std.specs.Prelude.{Float}
use Rattle.vector.specs.Vector.{neg_of, dot_of}
use Rattle.vector.specs.Rotation.{product_of, of_scaled_axis}
use Rattle.vector.specs.Matrix.{tensor_times}
use Rattle.vector.specs.declared.Vec3.{Vec3}
use Rattle.vector.specs.declared.Quat.{Quat}
use Rattle.vector.specs.declared.SymmetricTensor.{SymmetricTensor}
use Rattle.solver_body.specs.Body.{with_delta}
use Rattle.solver_body.specs.declared.SolverBody.{SolverBody}
use Rattle.solver_body.specs.declared.BodyPair.{BodyPair}

-- (11), (12): w = n · I⁻¹ n
unfoldable pub angular_inverse_mass : SymmetricTensor → Vec3 → Float
angular_inverse_mass I n = dot_of n (tensor_times I n)

-- (15), (16): the turn by I⁻¹ p, as a whole rotation about that axis
unfoldable pub angular_delta_rot : SymmetricTensor → Vec3 → Quat
angular_delta_rot I p = of_scaled_axis (tensor_times I p)

unfoldable pub turned : SolverBody → SymmetricTensor → Vec3 → SolverBody
turned b I p = with_delta b b.delta_position (product_of (angular_delta_rot I p) b.delta_rotation)

-- (15), (16): the first body is turned by p, the second by -p
unfoldable pub angular_impulse_applied : BodyPair → SymmetricTensor → SymmetricTensor → Vec3 → BodyPair
angular_impulse_applied b I₁ I₂ p = record { body1 = turned b.body1 I₁ p; body2 = turned b.body2 I₂ (neg_of p) }
