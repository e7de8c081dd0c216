-- What each kind prepares, each stage with its total, and each kind's solve as one composition of its stages, for the code's own contracts: Steps.antt, which readers go by, needs none of it.
use Rattle.std.specs.Prelude.{true, Option, None, Some, Float, if◌then◌else◌}
use Rattle.std.specs.Float.Ieee.{neg, le}
use Rattle.scalar.specs.Arith.{◌⊕◌, f0, epsilon, pi}
use Rattle.vector.specs.Vector.{origin, add_of, sub_of, neg_of, scale_of, div_of, cross_of, length_of, any_orthonormal}
use Rattle.vector.specs.Rotation.{product_of, turn_of}
use Rattle.vector.specs.Matrix.{of_quat, matrix_times}
use Rattle.vector.specs.declared.Mat3.{Mat3}
use Rattle.vector.specs.declared.Vec3.{Vec3}
use Rattle.vector.specs.declared.SymmetricTensor.{SymmetricTensor}
use Rattle.joints.specs.Limit.{distance_correction, angle_correction}
use Rattle.joints.specs.declared.AngleCorrection.{AngleCorrection}
use Rattle.joints.specs.declared.AngleCorrection.TheVariants as correction
use Rattle.joints.specs.declared.AngleLimit.{AngleLimit}
use Rattle.joints.specs.declared.DistanceLimit.{DistanceLimit}
use Rattle.joints.specs.declared.motor.AngularMotor.{AngularMotor}
use Rattle.joints.specs.declared.motor.LinearMotor.{LinearMotor}
use Rattle.joints.specs.declared.fixed.FixedJoint.{FixedJoint}
use Rattle.joints.specs.declared.revolute.RevoluteJoint.{RevoluteJoint}
use Rattle.joints.specs.declared.prismatic.PrismaticJoint.{PrismaticJoint}
use Rattle.joints.specs.declared.spherical.SphericalJoint.{SphericalJoint}
use Rattle.joints.specs.declared.distance.DistanceJoint.{DistanceJoint}
use Rattle.solver_body.specs.declared.RigidBody.{RigidBody}
use Rattle.solver_body.specs.declared.SolverBodyInertia.{SolverBodyInertia}
use Rattle.solver_body.specs.declared.BodyPair.{BodyPair}
use Rattle.xpbd.specs.Positional.{impulse_applied, anchor_arm, center_difference_of, separation_of}
use Rattle.xpbd.specs.Angular.{angular_impulse_applied}
use Rattle.xpbd.specs.Parts.{point_prepared, angle_prepared, position_corrected, aligned, point_solved, angle_solved}
use Rattle.xpbd.specs.declared.Solved.{Solved}
use Rattle.xpbd.specs.declared.angular_constraint.Corrected.{Corrected}
use Rattle.xpbd.specs.declared.point_constraint.PointConstraintShared.{PointConstraintShared}
use Rattle.xpbd_joints.specs.Revolute.{angular_motor_given}
use Rattle.xpbd_joints.specs.Prismatic.{prismatic_warmed, linear_motor_given, slide_correction}
use Rattle.xpbd_joints.specs.Spherical.{swing_correction, twist_correction}
use Rattle.xpbd_joints.specs.Stage.{Setting}
use Rattle.xpbd_joints.specs.declared.fixed.FixedJointSolverData.{FixedJointSolverData}
use Rattle.xpbd_joints.specs.declared.distance.DistanceJointSolverData.{DistanceJointSolverData}
use Rattle.xpbd_joints.specs.declared.revolute.RevoluteJointSolverData.{RevoluteJointSolverData}
use Rattle.xpbd_joints.specs.declared.prismatic.PrismaticJointSolverData.{PrismaticJointSolverData}
use Rattle.xpbd_joints.specs.declared.spherical.SphericalJointSolverData.{SphericalJointSolverData}

-- ---- what each kind prepares

unfoldable pub fixed_prepared : FixedJoint → RigidBody → RigidBody → FixedJointSolverData
fixed_prepared j b₁ b₂ =
    record {
      point_constraint = point_prepared b₁ b₂ j.frame1.anchor j.frame2.anchor;
      angle_constraint = angle_prepared b₁.rotation b₂.rotation j.frame1.basis j.frame2.basis;
    }

unfoldable pub distance_prepared : DistanceJoint → RigidBody → RigidBody → DistanceJointSolverData
distance_prepared j b₁ b₂ =
    record {
      world_r1 = anchor_arm b₁ j.anchor1;
      world_r2 = anchor_arm b₂ j.anchor2;
      center_difference = center_difference_of b₁ b₂;
      total_lagrange = origin;
    }

-- the axis a and, at a right angle to it, b, in both bodies
unfoldable pub revolute_prepared : RevoluteJoint → RigidBody → RigidBody → RevoluteJointSolverData
revolute_prepared j b₁ b₂ =
    let q₁ = product_of b₁.rotation j.frame1.basis in
    let q₂ = product_of b₂.rotation j.frame2.basis in
    let b = any_orthonormal j.hinge_axis in
    record {
      point_constraint = point_prepared b₁ b₂ j.frame1.anchor j.frame2.anchor;
      a1 = turn_of q₁ j.hinge_axis;
      a2 = turn_of q₂ j.hinge_axis;
      b1 = turn_of q₁ b;
      b2 = turn_of q₂ b;
      total_align_lagrange = origin;
      total_limit_lagrange = origin;
      total_motor_lagrange = origin;
    }

unfoldable pub prismatic_prepared : PrismaticJoint → RigidBody → RigidBody → PrismaticJointSolverData
prismatic_prepared j b₁ b₂ =
    record {
      world_r1 = anchor_arm b₁ j.frame1.anchor;
      world_r2 = anchor_arm b₂ j.frame2.anchor;
      center_difference = center_difference_of b₁ b₂;
      free_axis1 = turn_of (product_of b₁.rotation j.frame1.basis) j.slider_axis;
      total_position_lagrange = origin;
      angle_constraint = angle_prepared b₁.rotation b₂.rotation j.frame1.basis j.frame2.basis;
      total_motor_lagrange = f0;
    }

-- the arms are turned by the matrices M₁ and M₂
unfoldable pub matrix_point : RigidBody → RigidBody → Mat3 → Mat3 → Vec3 → Vec3 → PointConstraintShared
matrix_point b₁ b₂ M₁ M₂ anchor₁ anchor₂ =
    record {
      world_r1 = matrix_times M₁ (sub_of anchor₁ b₁.center_of_mass);
      world_r2 = matrix_times M₂ (sub_of anchor₂ b₂.center_of_mass);
      center_difference = center_difference_of b₁ b₂;
      total_lagrange = origin;
    }

unfoldable pub spherical_prepared : SphericalJoint → RigidBody → RigidBody → SphericalJointSolverData
spherical_prepared j b₁ b₂ =
    let M₁ = of_quat b₁.rotation in
    let M₂ = of_quat b₂.rotation in
    let swing = any_orthonormal j.twist_axis in
    record {
      point_constraint = matrix_point b₁ b₂ M₁ M₂ j.frame1.anchor j.frame2.anchor;
      swing_axis1 = matrix_times M₁ (turn_of j.frame1.basis swing);
      swing_axis2 = matrix_times M₂ (turn_of j.frame2.basis swing);
      twist_axis1 = matrix_times M₁ (turn_of j.frame1.basis j.twist_axis);
      twist_axis2 = matrix_times M₂ (turn_of j.frame2.basis j.twist_axis);
      total_swing_lagrange = origin;
      total_twist_lagrange = origin;
    }

-- ---- stages

-- after a slide's motor, which adds to two totals
pub record Driven : Type 0 where
  pub bodies : BodyPair
  pub total_position_lagrange : Vec3
  pub total_motor_lagrange : Float

-- a joint's data with the stage's total put in by `put`
abbrev pub counted : {D : Type 0} → (Vec3 → D) → Solved Vec3 → Solved D
counted put s = record { solver_data = put s.solver_data; bodies = s.bodies }

abbrev pub driven : PrismaticJointSolverData → Driven → Solved PrismaticJointSolverData
driven k s =
    record {
      solver_data = record k { total_position_lagrange = s.total_position_lagrange; total_motor_lagrange = s.total_motor_lagrange };
      bodies = s.bodies;
    }

-- one with motors
abbrev pub setting_of : SolverBodyInertia → SolverBodyInertia → Float → Setting
setting_of i₁ i₂ h = record { dt = h; motors = true; inertia1 = i₁; inertia2 = i₂ }

abbrev pub unchanged : BodyPair → Vec3 → Solved Vec3
unchanged b total = record { solver_data = total; bodies = b }

abbrev pub with_total : Vec3 → Corrected → Solved Vec3
with_total total s = record { solver_data = add_of total s.lagrange; bodies = s.bodies }

-- the correction of the rotation d
unfoldable pub align_stage : BodyPair → SymmetricTensor → SymmetricTensor → Vec3 → Vec3 → Float → Float → Solved Vec3
align_stage b I₁ I₂ d total α h = with_total total (aligned b I₁ I₂ d α h)

-- what a limit asks for
unfoldable pub limit_stage : AngleCorrection → BodyPair → SymmetricTensor → SymmetricTensor → Vec3 → Float → Float → Solved Vec3
limit_stage correction.None b I₁ I₂ total α h = unchanged b total
limit_stage (correction.Some d) b I₁ I₂ total α h = align_stage b I₁ I₂ d total α h

-- ---- each kind

-- the warm start, by the motor's warm value w and the coefficient c
abbrev pub prismatic_warm_started : PrismaticJoint → RigidBody → RigidBody → BodyPair → SolverBodyInertia → SolverBodyInertia → Float → Float → BodyPair
prismatic_warm_started j b₁ b₂ b i₁ i₂ w c =
    let k = prismatic_prepared j b₁ b₂ in
    prismatic_warmed j.motor b i₁ i₂ k.world_r1 k.world_r2 k.free_axis1 w c

unfoldable pub fixed_solved : FixedJoint → FixedJointSolverData → BodyPair → SolverBodyInertia → SolverBodyInertia → Float → Solved FixedJointSolverData
fixed_solved j k b i₁ i₂ h =
    let s = angle_solved k.angle_constraint b i₁.inv_angular_inertia i₂.inv_angular_inertia j.angle_compliance h in
    let t = point_solved k.point_constraint s.bodies i₁ i₂ j.point_compliance h in
    record { solver_data = record { point_constraint = t.solver_data; angle_constraint = s.solver_data }; bodies = t.bodies }

unfoldable pub distance_solved : DistanceJoint → DistanceJointSolverData → BodyPair → SolverBodyInertia → SolverBodyInertia → Float → Solved DistanceJointSolverData
distance_solved j k b i₁ i₂ h =
    let r₁ = turn_of b.body1.delta_rotation k.world_r1 in
    let r₂ = turn_of b.body2.delta_rotation k.world_r2 in
    let c = distance_correction j.limits (separation_of b.body1.delta_position b.body2.delta_position r₁ r₂ k.center_difference) in
    if le c.magnitude epsilon
    then record { solver_data = k; bodies = b }
    else counted (λ t. record k { total_lagrange = t }) (with_total k.total_lagrange (position_corrected b i₁ i₂ r₁ r₂ c.direction c.magnitude j.compliance h))

-- (20): the error of the axes is a₁ × a₂
unfoldable pub axes_stage : BodyPair → SymmetricTensor → SymmetricTensor → Vec3 → Vec3 → Vec3 → Float → Float → Solved Vec3
axes_stage b I₁ I₂ a₁ a₂ total α h =
    align_stage b I₁ I₂ (cross_of (turn_of b.body1.delta_rotation a₁) (turn_of b.body2.delta_rotation a₂)) total α h

unfoldable pub driven_by : Option Float → BodyPair → SymmetricTensor → SymmetricTensor → Vec3 → Vec3 → Solved Vec3
driven_by None b I₁ I₂ a total = unchanged b total
driven_by (Some Δλ) b I₁ I₂ a total =
    record { solver_data = add_of total (scale_of a Δλ); bodies = angular_impulse_applied b I₁ I₂ (scale_of a (neg Δλ)) }

unfoldable pub motor_stage : AngularMotor → BodyPair → SymmetricTensor → SymmetricTensor → Vec3 → Vec3 → Vec3 → Vec3 → Float → Solved Vec3
motor_stage m b I₁ I₂ a₁ b₁ b₂ total h =
    driven_by (angular_motor_given m b I₁ I₂ a₁ b₁ b₂ h) b I₁ I₂ (turn_of b.body1.delta_rotation a₁) total

unfoldable pub angle_limit_stage : Option AngleLimit → BodyPair → SymmetricTensor → SymmetricTensor → Vec3 → Vec3 → Vec3 → Vec3 → Float → Float → Solved Vec3
angle_limit_stage None b I₁ I₂ a₁ b₁ b₂ total α h = unchanged b total
angle_limit_stage (Some l) b I₁ I₂ a₁ b₁ b₂ total α h =
    let q₁ = b.body1.delta_rotation in
    limit_stage (angle_correction l (turn_of q₁ a₁) (turn_of q₁ b₁) (turn_of b.body2.delta_rotation b₂) pi) b I₁ I₂ total α h

unfoldable pub revolute_solved : RevoluteJoint → RevoluteJointSolverData → BodyPair → SolverBodyInertia → SolverBodyInertia → Float → Solved RevoluteJointSolverData
revolute_solved j k b i₁ i₂ h =
    let I₁ = i₁.inv_angular_inertia in
    let I₂ = i₂.inv_angular_inertia in
    let align = axes_stage b I₁ I₂ k.a1 k.a2 k.total_align_lagrange j.align_compliance h in
    let drive = motor_stage j.motor align.bodies I₁ I₂ k.a1 k.b1 k.b2 k.total_motor_lagrange h in
    let limit = angle_limit_stage j.angle_limit drive.bodies I₁ I₂ k.a1 k.b1 k.b2 k.total_limit_lagrange j.limit_compliance h in
    let point = point_solved k.point_constraint limit.bodies i₁ i₂ j.point_compliance h in
    record {
      solver_data =
          record k {
            point_constraint = point.solver_data;
            total_align_lagrange = align.solver_data;
            total_limit_lagrange = limit.solver_data;
            total_motor_lagrange = drive.solver_data;
          };
      bodies = point.bodies;
    }

-- the motor's impulse also counts in the position's total
unfoldable pub driven_along : Option Float → BodyPair → SolverBodyInertia → SolverBodyInertia → Vec3 → Vec3 → Vec3 → Vec3 → Float → Driven
driven_along None b i₁ i₂ r₁ r₂ a total motor =
    record { bodies = b; total_position_lagrange = total; total_motor_lagrange = motor }
driven_along (Some Δλ) b i₁ i₂ r₁ r₂ a total motor =
    record {
      bodies = impulse_applied b i₁ i₂ (neg_of (scale_of a Δλ)) r₁ r₂;
      total_position_lagrange = add_of total (scale_of a Δλ);
      total_motor_lagrange = motor ⊕ Δλ;
    }

unfoldable pub linear_motor_stage : LinearMotor → BodyPair → SolverBodyInertia → SolverBodyInertia → Vec3 → Vec3 → Vec3 → Vec3 → Vec3 → Float → Float → Driven
linear_motor_stage m b i₁ i₂ arm₁ arm₂ d axis total motor h =
    let q₁ = b.body1.delta_rotation in
    driven_along (linear_motor_given m b i₁ i₂ arm₁ arm₂ d axis h) b i₁ i₂ (turn_of q₁ arm₁) (turn_of b.body2.delta_rotation arm₂) (turn_of q₁ axis) total motor

-- the error is the length of that correction
unfoldable pub position_stage : Option DistanceLimit → BodyPair → SolverBodyInertia → SolverBodyInertia → Vec3 → Vec3 → Vec3 → Vec3 → Vec3 → Float → Float → Solved Vec3
position_stage l b i₁ i₂ arm₁ arm₂ d axis total α h =
    let q₁ = b.body1.delta_rotation in
    let r₁ = turn_of q₁ arm₁ in
    let r₂ = turn_of b.body2.delta_rotation arm₂ in
    let Δx = slide_correction l (separation_of b.body1.delta_position b.body2.delta_position r₁ r₂ d) (turn_of q₁ axis) in
    let c = length_of Δx in
    if le c epsilon then unchanged b total
    else with_total total (position_corrected b i₁ i₂ r₁ r₂ (div_of Δx c) c α h)

unfoldable pub prismatic_solved : PrismaticJoint → PrismaticJointSolverData → BodyPair → SolverBodyInertia → SolverBodyInertia → Float → Solved PrismaticJointSolverData
prismatic_solved j k b i₁ i₂ h =
    let angle = angle_solved k.angle_constraint b i₁.inv_angular_inertia i₂.inv_angular_inertia j.angle_compliance h in
    let drive =
    linear_motor_stage j.motor angle.bodies i₁ i₂ k.world_r1 k.world_r2 k.center_difference k.free_axis1
    k.total_position_lagrange k.total_motor_lagrange h in
    let position =
    position_stage j.limits drive.bodies i₁ i₂ k.world_r1 k.world_r2 k.center_difference k.free_axis1
    drive.total_position_lagrange j.align_compliance h in
    record {
      solver_data =
          record k {
            total_position_lagrange = position.solver_data;
            angle_constraint = angle.solver_data;
            total_motor_lagrange = drive.total_motor_lagrange;
          };
      bodies = position.bodies;
    }

unfoldable pub swing_stage : Option AngleLimit → BodyPair → SymmetricTensor → SymmetricTensor → Vec3 → Vec3 → Vec3 → Float → Float → Solved Vec3
swing_stage None b I₁ I₂ a₁ a₂ total α h = unchanged b total
swing_stage (Some l) b I₁ I₂ a₁ a₂ total α h =
    limit_stage (swing_correction l (turn_of b.body1.delta_rotation a₁) (turn_of b.body2.delta_rotation a₂)) b I₁ I₂ total α h

unfoldable pub twist_stage : Option AngleLimit → BodyPair → SymmetricTensor → SymmetricTensor → Vec3 → Vec3 → Vec3 → Vec3 → Vec3 → Float → Float → Solved Vec3
twist_stage None b I₁ I₂ a₁ a₂ b₁ b₂ total α h = unchanged b total
twist_stage (Some l) b I₁ I₂ a₁ a₂ b₁ b₂ total α h =
    let q₁ = b.body1.delta_rotation in
    let q₂ = b.body2.delta_rotation in
    limit_stage (twist_correction l (turn_of q₁ a₁) (turn_of q₂ a₂) (turn_of q₁ b₁) (turn_of q₂ b₂) h) b I₁ I₂ total α h

unfoldable pub spherical_solved : SphericalJoint → SphericalJointSolverData → BodyPair → SolverBodyInertia → SolverBodyInertia → Float → Solved SphericalJointSolverData
spherical_solved j k b i₁ i₂ h =
    let I₁ = i₁.inv_angular_inertia in
    let I₂ = i₂.inv_angular_inertia in
    let point = point_solved k.point_constraint b i₁ i₂ j.point_compliance h in
    let swing = swing_stage j.swing_limit point.bodies I₁ I₂ k.swing_axis1 k.swing_axis2 k.total_swing_lagrange j.swing_compliance h in
    let twist =
    twist_stage j.twist_limit swing.bodies I₁ I₂ k.swing_axis1 k.swing_axis2 k.twist_axis1 k.twist_axis2
    k.total_twist_lagrange j.twist_compliance h in
    record {
      solver_data =
          record k {
            point_constraint = point.solver_data;
            total_swing_lagrange = swing.solver_data;
            total_twist_lagrange = twist.solver_data;
          };
      bodies = twist.bodies;
    }
