-- What a point and a fixed angle prepare, each correction with what it does to the bodies and to a constraint's total, and the two bodies that a function is lent, for the code's own contracts: no reader needs them.
use Rattle.std.specs.Prelude.{Float, if◌then◌else◌}
use Rattle.std.specs.Float.Ieee.{neg, eq, le}
use Rattle.scalar.specs.Arith.{f0, epsilon}
use Rattle.vector.specs.Vector.{origin, add_of, neg_of, scale_of, div_of, length_of, length_squared_of}
use Rattle.vector.specs.Rotation.{product_of, inverse_of, turn_of}
use Rattle.vector.specs.declared.Vec3.{Vec3}
use Rattle.vector.specs.declared.SymmetricTensor.{SymmetricTensor}
use Rattle.vector.specs.declared.Quat.{Quat}
use Rattle.solver_body.specs.declared.RigidBody.{RigidBody}
use Rattle.solver_body.specs.declared.SolverBody.{SolverBody}
use Rattle.solver_body.specs.declared.SolverBodyInertia.{SolverBodyInertia}
use Rattle.solver_body.specs.declared.BodyPair.{BodyPair}
use Rattle.xpbd.specs.Multiplier.{lagrange_update}
use Rattle.xpbd.specs.Positional.{impulse_applied, weight, anchor_arm, center_difference_of, separation_of}
use Rattle.xpbd.specs.Angular.{angular_inverse_mass, angular_impulse_applied}
use Rattle.xpbd.specs.FixedAngle.{rotation_difference_of}
use Rattle.xpbd.specs.declared.angular_constraint.Corrected.{Corrected}
use Rattle.xpbd.specs.declared.point_constraint.PointConstraintShared.{PointConstraintShared}
use Rattle.xpbd.specs.declared.Solved.{Solved}
use Rattle.xpbd.specs.declared.fixed_angle_constraint.FixedAngleConstraintShared.{FixedAngleConstraintShared}

abbrev pub pair : SolverBody → SolverBody → BodyPair
pair b₁ b₂ = record { body1 = b₁; body2 = b₂ }

unfoldable pub point_prepared : RigidBody → RigidBody → Vec3 → Vec3 → PointConstraintShared
point_prepared b₁ b₂ anchor₁ anchor₂ =
    record { world_r1 = anchor_arm b₁ anchor₁; world_r2 = anchor_arm b₂ anchor₂; center_difference = center_difference_of b₁ b₂; total_lagrange = origin }

unfoldable pub angle_prepared : Quat → Quat → Quat → Quat → FixedAngleConstraintShared
angle_prepared q₁ q₂ basis₁ basis₂ =
    record { rotation_difference = product_of (product_of q₁ basis₁) (inverse_of (product_of q₂ basis₂)); total_lagrange = origin }

-- (2) to (4): the impulse p = Δλ n that corrects the error c along n at the arms r₁ and r₂
unfoldable pub correction_impulse : SolverBodyInertia → SolverBodyInertia → Vec3 → Vec3 → Vec3 → Float → Float → Float → Vec3
correction_impulse i₁ i₂ r₁ r₂ n c α h = scale_of n (lagrange_update f0 c (weight i₁ r₁ n) (weight i₂ r₂ n) α h)

-- (2) to (9): the bodies after it, and the impulse
unfoldable pub position_corrected : BodyPair → SolverBodyInertia → SolverBodyInertia → Vec3 → Vec3 → Vec3 → Float → Float → Float → Corrected
position_corrected b i₁ i₂ r₁ r₂ n c α h =
    let p = correction_impulse i₁ i₂ r₁ r₂ n c α h in
    record { bodies = impulse_applied b i₁ i₂ p r₁ r₂; lagrange = p }

-- (11) to (16): the correction of the rotation d, whose length is the error and whose direction is the axis n; the impulse is -Δλ n
unfoldable pub aligned : BodyPair → SymmetricTensor → SymmetricTensor → Vec3 → Float → Float → Corrected
aligned b I₁ I₂ d α h =
    let θ = length_of d in
    let n = div_of d θ in
    let Δλ = lagrange_update f0 θ (angular_inverse_mass I₁ n) (angular_inverse_mass I₂ n) α h in
    if le θ epsilon
    then record { bodies = b; lagrange = origin }
    else record { bodies = angular_impulse_applied b I₁ I₂ (scale_of n (neg Δλ)); lagrange = scale_of n Δλ }

abbrev pub point_corrected : PointConstraintShared → Corrected → Solved PointConstraintShared
point_corrected k s =
    record {
      solver_data =
          record {
            world_r1 = k.world_r1;
            world_r2 = k.world_r2;
            center_difference = k.center_difference;
            total_lagrange = add_of k.total_lagrange s.lagrange;
          };
      bodies = s.bodies;
    }

-- the error is the length of the separation s, the direction -s / |s|; nothing is done where s · s is zero
unfoldable pub point_solved : PointConstraintShared → BodyPair → SolverBodyInertia → SolverBodyInertia → Float → Float → Solved PointConstraintShared
point_solved k b i₁ i₂ α h =
    let r₁ = turn_of b.body1.delta_rotation k.world_r1 in
    let r₂ = turn_of b.body2.delta_rotation k.world_r2 in
    let s = separation_of b.body1.delta_position b.body2.delta_position r₁ r₂ k.center_difference in
    let c = length_of s in
    if eq (length_squared_of s) f0
    then record { solver_data = k; bodies = b }
    else point_corrected k (position_corrected b i₁ i₂ r₁ r₂ (div_of (neg_of s) c) c α h)

abbrev pub angle_corrected : FixedAngleConstraintShared → Corrected → Solved FixedAngleConstraintShared
angle_corrected k s =
    record {
      solver_data = record { rotation_difference = k.rotation_difference; total_lagrange = add_of k.total_lagrange s.lagrange };
      bodies = s.bodies;
    }

unfoldable pub angle_solved : FixedAngleConstraintShared → BodyPair → SymmetricTensor → SymmetricTensor → Float → Float → Solved FixedAngleConstraintShared
angle_solved k b I₁ I₂ α h =
    angle_corrected k
    (aligned b I₁ I₂ (rotation_difference_of k.rotation_difference b.body1.delta_rotation b.body2.delta_rotation) α h)
