-- What the parts of a tick hand to each other, for their own contracts: Body.antt and Joint.antt need none of it.
use Rattle.std.specs.Prelude.{◌&&◌, List, ◌++◌, Float}
use Rattle.scalar.specs.Scalar.{is_finite}
use Rattle.vector.specs.Vector.{add_of, sub_of, div_of}
use Rattle.vector.specs.Rotation.{product_of, inverse_of}
use Rattle.vector.specs.declared.Vec3.{Vec3}
use Rattle.vector.specs.declared.Quat.{Quat}
use Rattle.vector.specs.declared.SymmetricTensor.{SymmetricTensor}
use Rattle.joints.specs.declared.Joint.{Joint}
use Rattle.solver_body.specs.Body.{with_velocity}
use Rattle.solver_body.specs.declared.RigidBody.{RigidBody}
use Rattle.solver_body.specs.declared.SolverBody.{SolverBody}
use Rattle.solver_body.specs.declared.SolverBodyInertia.{SolverBodyInertia}
use Rattle.solver_body.specs.declared.BodyPair.{BodyPair}
use Rattle.xpbd.specs.declared.point_constraint.PointConstraintShared.{PointConstraintShared}
use Rattle.numbers.specs.Numbers.{numbers3, numbers6}
use Rattle.xpbd_joints.specs.Steps.{no_totals, steps_of, Run, run, warmed}
use Rattle.xpbd_joints.specs.Solved.{setting_of}
use Rattle.xpbd_joints.specs.declared.JointTotals.{JointTotals}
use Rattle.numbers.specs.Lists.{all}
use Rattle.state.specs.State.{totals_numbers}
use Rattle.tick.specs.Body.{angular_change}
use Rattle.tick.specs.Joint.{arm_numbers, prepared_numbers, solver_numbers, looked_at}
use Rattle.tick.specs.declared.joint.JointResult.{JointResult}

-- ---- a body

-- v + (x - x₀) / h, with x₀ as it was before the joints' solve
unfoldable pub linear_projected : SolverBody → Vec3 → Float → SolverBody
linear_projected b x₀ h =
    with_velocity b (add_of b.linear_velocity (div_of (sub_of b.delta_position x₀) h)) b.angular_velocity

-- with Δq = q q₀⁻¹, and q₀ as it was before the joints' solve
unfoldable pub angular_projected : SolverBody → Quat → Float → SolverBody
angular_projected b q₀ h =
    with_velocity b b.linear_velocity (add_of b.angular_velocity (angular_change (product_of b.delta_rotation (inverse_of q₀)) h))

-- velocities projected, against the deltas as they were before the joints' solve
unfoldable pub projected : SolverBody → SolverBody → Float → SolverBody
projected pre b h = angular_projected (linear_projected b pre.delta_position h) pre.delta_rotation h

-- ---- a joint

-- numbers that a kind prepared
abbrev pub point_numbers : PointConstraintShared → List Float
point_numbers p = arm_numbers p.world_r1 p.world_r2 p.center_difference

abbrev pub four_numbers : Vec3 → Vec3 → Vec3 → Vec3 → List Float
four_numbers a₁ a₂ b₁ b₂ = numbers3 a₁ ++ numbers3 a₂ ++ numbers3 b₁ ++ numbers3 b₂

-- what a tick keeps of a joint's solve
abbrev pub result_of : Joint → RigidBody → RigidBody → SolverBodyInertia → SolverBodyInertia → Run → JointResult
result_of j b₁ b₂ i₁ i₂ r = record { finite = all is_finite (looked_at j b₁ b₂ i₁ i₂ r); bodies = r.bodies; totals = r.totals }

-- a joint's solve, from totals of zero
abbrev pub run_with : Joint → RigidBody → RigidBody → BodyPair → SolverBodyInertia → SolverBodyInertia → Float → Run
run_with j b₁ b₂ b i₁ i₂ h = run (setting_of i₁ i₂ h) (steps_of j b₁ b₂) (record { bodies = b; totals = no_totals })

unfoldable pub joint_solved : Joint → RigidBody → RigidBody → BodyPair → SolverBodyInertia → SolverBodyInertia → Float → JointResult
joint_solved j b₁ b₂ b i₁ i₂ h = result_of j b₁ b₂ i₁ i₂ (run_with j b₁ b₂ b i₁ i₂ h)

-- the same in two steps, the first by kind: only what was prepared is tested
unfoldable pub prepared_with : Joint → RigidBody → RigidBody → BodyPair → SolverBodyInertia → SolverBodyInertia → Float → JointResult
prepared_with j b₁ b₂ b i₁ i₂ h =
    let r = run_with j b₁ b₂ b i₁ i₂ h in
    record { finite = all is_finite (prepared_numbers j b₁ b₂); bodies = r.bodies; totals = r.totals }

unfoldable pub tested_of : JointResult → SymmetricTensor → SymmetricTensor → JointResult
tested_of r t₁ t₂ =
    record {
      finite =
          r.finite && all is_finite (totals_numbers r.totals) && all is_finite (solver_numbers r.bodies.body1) && all is_finite (solver_numbers r.bodies.body2)
          && all is_finite (numbers6 t₁)
          && all is_finite (numbers6 t₂);
      bodies = r.bodies;
      totals = r.totals;
    }

-- its warm start, with the coefficient c
unfoldable pub joint_warmed : Joint → RigidBody → RigidBody → JointTotals → BodyPair → SolverBodyInertia → SolverBodyInertia → Float → Float → BodyPair
joint_warmed j b₁ b₂ last b i₁ i₂ c h = warmed (setting_of i₁ i₂ h) c last (steps_of j b₁ b₂) b
