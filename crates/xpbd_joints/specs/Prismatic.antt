-- What a prismatic joint prepares, its motor's warm start and what its motor gives, all the Rust's own; and the correction of its positions: Müller 2020, equation (25), along three axes, the limit's with the others. Definitions only.
use Rattle.std.specs.Prelude.{not, Option, None, Some, Float, if◌then◌else◌}
use Rattle.scalar.specs.Arith.{◌⊕◌, ◌⊖◌, ◌⊗◌}
use Rattle.vector.specs.Vector.{origin, add_of, sub_of, scale_of, times_of, dot_of, cross_of, any_orthogonal}
use Rattle.vector.specs.Rotation.{turn_of}
use Rattle.vector.specs.Matrix.{tensor_times}
use Rattle.vector.specs.declared.Vec3.{Vec3}
use Rattle.vector.specs.declared.SymmetricTensor.{SymmetricTensor}
use Rattle.joints.specs.Limit.{zero_limit, axis_correction}
use Rattle.joints.specs.Motor.{motor_lagrange, unless_off}
use Rattle.joints.specs.declared.DistanceLimit.{DistanceLimit}
use Rattle.joints.specs.declared.motor.LinearMotor.{LinearMotor}
use Rattle.solver_body.specs.Body.{with_velocity, effective_inv_mass}
use Rattle.solver_body.specs.declared.SolverBodyInertia.{SolverBodyInertia}
use Rattle.solver_body.specs.declared.BodyPair.{BodyPair}
use Rattle.xpbd.specs.Positional.{weight, separation_of}

-- the velocities changed by ∓ m⁻¹ p and ∓ I⁻¹ (r × p)
unfoldable pub pushed_by : BodyPair → Vec3 → Vec3 → SymmetricTensor → SymmetricTensor → Vec3 → Vec3 → Vec3 → BodyPair
pushed_by b m₁ m₂ I₁ I₂ p r₁ r₂ =
    record {
      body1 =
          with_velocity b.body1 (sub_of b.body1.linear_velocity (times_of p m₁)) (sub_of b.body1.angular_velocity (tensor_times I₁ (cross_of r₁ p)));
      body2 =
          with_velocity b.body2 (add_of b.body2.linear_velocity (times_of p m₂)) (add_of b.body2.angular_velocity (tensor_times I₂ (cross_of r₂ p)));
    }

-- the warm start, by the motor's warm value w and the coefficient c
unfoldable pub prismatic_warmed : LinearMotor → BodyPair → SolverBodyInertia → SolverBodyInertia → Vec3 → Vec3 → Vec3 → Float → Float → BodyPair
prismatic_warmed m b i₁ i₂ arm₁ arm₂ axis w c =
    let q₁ = b.body1.delta_rotation in
    let p = scale_of (turn_of q₁ axis) (c ⊗ w) in
    let r₁ = turn_of q₁ arm₁ in
    let r₂ = turn_of b.body2.delta_rotation arm₂ in
    if not m.enabled then b
    else pushed_by b (effective_inv_mass i₁) (effective_inv_mass i₂) i₁.inv_angular_inertia i₂.inv_angular_inertia p r₁ r₂

-- what the motor's operation gives, by the errors v of the speed along the axis and x of the position along it
unfoldable pub linear_motor_given : LinearMotor → BodyPair → SolverBodyInertia → SolverBodyInertia → Vec3 → Vec3 → Vec3 → Vec3 → Float → Option Float
linear_motor_given m b i₁ i₂ arm₁ arm₂ d axis h =
    let q₁ = b.body1.delta_rotation in
    let a = turn_of q₁ axis in
    let r₁ = turn_of q₁ arm₁ in
    let r₂ = turn_of b.body2.delta_rotation arm₂ in
    let w = weight i₁ r₁ a ⊕ weight i₂ r₂ a in
    let v = m.target_velocity ⊖ dot_of (sub_of b.body2.linear_velocity b.body1.linear_velocity) a in
    let x = m.target_position ⊖ dot_of (separation_of b.body1.delta_position b.body2.delta_position r₁ r₂ d) a in
    unless_off m.enabled w (motor_lagrange m.motor_model m.max_force v x w h)

-- the sum begins at zero, which makes a -0 of the correction +0
unfoldable pub free_axis_correction : Option DistanceLimit → Vec3 → Vec3 → Vec3
free_axis_correction None s a = origin
free_axis_correction (Some l) s a = add_of origin (axis_correction l s a)

-- (25) for the separation s: along the free axis a to its limits, along two others, which need not have length 1, to zero
unfoldable pub slide_correction : Option DistanceLimit → Vec3 → Vec3 → Vec3
slide_correction l s a =
    let b = any_orthogonal a in
    add_of (add_of (free_axis_correction l s a) (axis_correction zero_limit s b)) (axis_correction zero_limit s (cross_of a b))
