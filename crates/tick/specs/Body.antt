-- A moving body in a tick, but for its joints: document 01, 'One tick'. Definitions only.
use Rattle.std.specs.Prelude.{Float, if◌then◌else◌}
use Rattle.std.specs.Float.Ieee.{lt}
use Rattle.scalar.specs.Arith.{◌⊕◌, ◌⊗◌, f0, f2}
use Rattle.vector.specs.Vector.{add_of, sub_of, neg_of, scale_of, div_of}
use Rattle.vector.specs.Rotation.{vector_part, product_of, inverse_of, turn_of, normalized, of_scaled_axis}
use Rattle.vector.specs.Matrix.{turned_tensor}
use Rattle.vector.specs.declared.Vec3.{Vec3}
use Rattle.vector.specs.declared.Quat.{Quat}
use Rattle.solver_body.specs.Body.{unlocked_axes}
use Rattle.solver_body.specs.declared.BodyState.{BodyState}
use Rattle.solver_body.specs.declared.RigidBody.{RigidBody}
use Rattle.solver_body.specs.declared.SolverBody.{SolverBody}
use Rattle.solver_body.specs.declared.SolverBodyInertia.{SolverBodyInertia}
use Rattle.loader.specs.declared.body.LinkBody.{LinkBody}

-- I⁻¹ = R I₀⁻¹ Rᵀ, with R of the rotation q as the tick finds it; an anchored body keeps the dummy's
unfoldable pub turned_body : Quat → LinkBody → LinkBody
turned_body q b =
    let i = b.inertia in
    let turned : SolverBodyInertia = record {
      inv_mass = i.inv_mass;
      inv_angular_inertia = turned_tensor q i.inv_angular_inertia;
      translation_x_locked = i.translation_x_locked;
      translation_y_locked = i.translation_y_locked;
      translation_z_locked = i.translation_z_locked;
    } in
    record { anchored = b.anchored; inertia = if b.anchored then i else turned; center_of_mass = b.center_of_mass }

-- gravity g along y for the time h, then locked linear velocities zero; the deltas are v h and the scaled axis of ω h
unfoldable pub integrated : SolverBody → SolverBodyInertia → Float → Float → SolverBody
integrated b i g h =
    let v = b.linear_velocity in
    let ω = b.angular_velocity in
    let u = unlocked_axes i (record { x = v.x; y = v.y ⊕ g ⊗ h; z = v.z }) in
    record { linear_velocity = u; angular_velocity = ω; delta_position = scale_of u h; delta_rotation = of_scaled_axis (scale_of ω h) }

-- ω = 2 Δq.xyz / h, negated where Δq.w < 0
unfoldable pub angular_change : Quat → Float → Vec3
angular_change Δq h =
    let ω = div_of (scale_of (vector_part Δq) f2) h in
    if lt Δq.w f0 then neg_of ω else ω

-- b after the joints' solve, pre before it. The rotation q is turned by its delta, over its length; the centre of mass c is moved by its delta.
-- Velocities from positions (Müller 2020): what the joints changed is added to them
unfoldable pub finished_body : RigidBody → SolverBody → SolverBody → Float → BodyState
finished_body r pre b h =
    let q = normalized (product_of b.delta_rotation r.rotation) in
    let c = r.center_of_mass in
    let Δx = sub_of b.delta_position pre.delta_position in
    let Δq = product_of b.delta_rotation (inverse_of pre.delta_rotation) in
    record {
      position = sub_of (add_of (add_of r.position (turn_of r.rotation c)) b.delta_position) (turn_of q c);
      rotation = q;
      linear_velocity = add_of b.linear_velocity (div_of Δx h);
      angular_velocity = add_of b.angular_velocity (angular_change Δq h);
    }
