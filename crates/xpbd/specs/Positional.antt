-- A positional correction: Müller 2020, equations (2) to (9), with the Rust's mass for each axis and whole turn. What is prepared of the anchors, and their separation from it, are the Rust's form. Definitions only.
use Rattle.std.specs.Prelude.{Float}
use Rattle.scalar.specs.Arith.{◌⊕◌}
use Rattle.vector.specs.Vector.{add_of, sub_of, neg_of, times_of, dot_of, cross_of, max_element}
use Rattle.vector.specs.Rotation.{product_of, turn_of, of_scaled_axis}
use Rattle.vector.specs.Matrix.{tensor_times}
use Rattle.vector.specs.declared.Vec3.{Vec3}
use Rattle.vector.specs.declared.Quat.{Quat}
use Rattle.vector.specs.declared.SymmetricTensor.{SymmetricTensor}
use Rattle.solver_body.specs.Body.{with_delta, effective_inv_mass}
use Rattle.solver_body.specs.declared.RigidBody.{RigidBody}
use Rattle.solver_body.specs.declared.SolverBody.{SolverBody}
use Rattle.solver_body.specs.declared.SolverBodyInertia.{SolverBodyInertia}
use Rattle.solver_body.specs.declared.BodyPair.{BodyPair}

-- (2), (3): w = m⁻¹ + (r × n) · I⁻¹ (r × n)
unfoldable pub generalized_inverse_mass : Float → SymmetricTensor → Vec3 → Vec3 → Float
generalized_inverse_mass m I r n = m ⊕ dot_of (cross_of r n) (tensor_times I (cross_of r n))

-- (8), (9): the turn by I⁻¹ (r × p), as a whole rotation about that axis
unfoldable pub delta_rot_of : SymmetricTensor → Vec3 → Vec3 → Quat
delta_rot_of I r p = of_scaled_axis (tensor_times I (cross_of r p))

-- (6), (8): x + m⁻¹ p, with an inverse mass for each axis, and the turn
unfoldable pub pushed : SolverBody → Vec3 → SymmetricTensor → Vec3 → Vec3 → SolverBody
pushed b m I p r =
    with_delta b (add_of b.delta_position (times_of p m)) (product_of (delta_rot_of I r p) b.delta_rotation)

-- (7), (9): x - m⁻¹ p, and the turn by -p
unfoldable pub pulled : SolverBody → Vec3 → SymmetricTensor → Vec3 → Vec3 → SolverBody
pulled b m I p r =
    with_delta b (sub_of b.delta_position (times_of p m)) (product_of (delta_rot_of I r (neg_of p)) b.delta_rotation)

-- (6) to (9)
unfoldable pub impulse_applied : BodyPair → SolverBodyInertia → SolverBodyInertia → Vec3 → Vec3 → Vec3 → BodyPair
impulse_applied b i₁ i₂ p r₁ r₂ =
    record {
      body1 = pushed b.body1 (effective_inv_mass i₁) i₁.inv_angular_inertia p r₁;
      body2 = pulled b.body2 (effective_inv_mass i₂) i₂.inv_angular_inertia p r₂;
    }

-- (2), (3) with the largest of the body's inverse masses
unfoldable pub weight : SolverBodyInertia → Vec3 → Vec3 → Float
weight i r n = generalized_inverse_mass (max_element (effective_inv_mass i)) i.inv_angular_inertia r n

-- from a body's centre of mass to an anchor, in world axes
unfoldable pub anchor_arm : RigidBody → Vec3 → Vec3
anchor_arm b anchor = turn_of b.rotation (sub_of anchor b.center_of_mass)

-- from the first centre of mass to the second
unfoldable pub center_difference_of : RigidBody → RigidBody → Vec3
center_difference_of b₁ b₂ =
    add_of (sub_of b₂.position b₁.position) (sub_of (turn_of b₂.rotation b₂.center_of_mass) (turn_of b₁.rotation b₁.center_of_mass))

-- from the first anchor to the second: the bodies' displacements x₁ and x₂ and arms r₁ and r₂, and d between their centres at the start
unfoldable pub separation_of : Vec3 → Vec3 → Vec3 → Vec3 → Vec3 → Vec3
separation_of x₁ x₂ r₁ r₂ d = add_of (add_of (sub_of x₂ x₁) (sub_of r₂ r₁)) d
