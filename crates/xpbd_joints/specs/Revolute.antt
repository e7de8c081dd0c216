-- What a revolute joint prepares, its motor's warm start and what its motor gives: all the Rust's own. Definitions only.
use Rattle.std.specs.Prelude.{not, Option, Float, if◌then◌else◌}
use Rattle.scalar.specs.Arith.{◌⊕◌, ◌⊖◌, pi, tau}
use Rattle.scalar.specs.Scalar.{rem_euclid_of}
use Rattle.trig.specs.Arctangent.{atan2_of}
use Rattle.vector.specs.Vector.{add_of, sub_of, scale_of, dot_of, cross_of}
use Rattle.vector.specs.Rotation.{turn_of}
use Rattle.vector.specs.Matrix.{tensor_times}
use Rattle.vector.specs.declared.Vec3.{Vec3}
use Rattle.vector.specs.declared.SymmetricTensor.{SymmetricTensor}
use Rattle.joints.specs.Motor.{motor_lagrange, unless_off}
use Rattle.joints.specs.declared.motor.AngularMotor.{AngularMotor}
use Rattle.solver_body.specs.Body.{with_velocity}
use Rattle.solver_body.specs.declared.BodyPair.{BodyPair}
use Rattle.xpbd.specs.Angular.{angular_inverse_mass}

-- the angular velocities changed by ∓ I⁻¹ p
unfoldable pub spun : BodyPair → SymmetricTensor → SymmetricTensor → Vec3 → BodyPair
spun b I₁ I₂ p =
    record {
      body1 = with_velocity b.body1 b.body1.linear_velocity (sub_of b.body1.angular_velocity (tensor_times I₁ p));
      body2 = with_velocity b.body2 b.body2.linear_velocity (add_of b.body2.angular_velocity (tensor_times I₂ p));
    }

-- the warm start, by the motor's warm value w and the coefficient c
unfoldable pub revolute_warmed : AngularMotor → BodyPair → SymmetricTensor → SymmetricTensor → Vec3 → Float → BodyPair
revolute_warmed m b I₁ I₂ w c = if not m.enabled then b else spun b I₁ I₂ (scale_of w c)

-- from b₁ to b₂ about a₁
unfoldable pub hinge_angle : Vec3 → Vec3 → Vec3 → Float
hinge_angle a₁ b₁ b₂ = atan2_of (dot_of (cross_of b₁ b₂) a₁) (dot_of b₁ b₂)

-- to [-π, π]
unfoldable pub wrapped_error : Float → Float
wrapped_error x = rem_euclid_of (x ⊕ pi) tau ⊖ pi

-- what the motor's operation gives, by the errors v of the angle's speed and x of the angle
unfoldable pub angular_motor_given : AngularMotor → BodyPair → SymmetricTensor → SymmetricTensor → Vec3 → Vec3 → Vec3 → Float → Option Float
angular_motor_given m b I₁ I₂ a₁ b₁ b₂ h =
    let q₁ = b.body1.delta_rotation in
    let a = turn_of q₁ a₁ in
    let w = angular_inverse_mass I₁ a ⊕ angular_inverse_mass I₂ a in
    let v = m.target_velocity ⊖ dot_of (sub_of b.body2.angular_velocity b.body1.angular_velocity) a in
    let x = wrapped_error (m.target_position ⊖ hinge_angle a (turn_of q₁ b₁) (turn_of b.body2.delta_rotation b₂)) in
    unless_off m.enabled w (motor_lagrange m.motor_model m.max_torque v x w h)
