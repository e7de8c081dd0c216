-- A body's inverse mass under its locks, and the dummy that stands for an anchored body (src/dynamics/solver/solver_body/mod.rs). Definitions only.
use Rattle.std.specs.Prelude.{Bool, false, Float, if◌then◌else◌}
use Rattle.scalar.specs.Arith.{f32, f0}
use Rattle.vector.specs.Vector.{origin}
use Rattle.vector.specs.Rotation.{identity}
use Rattle.vector.specs.Matrix.{zero_tensor}
use Rattle.vector.specs.declared.Vec3.{Vec3}
use Rattle.vector.specs.declared.Quat.{Quat}
use Rattle.solver_body.specs.declared.BodyState.{BodyState}
use Rattle.solver_body.specs.declared.SolverBody.{SolverBody}
use Rattle.solver_body.specs.declared.SolverBodyInertia.{SolverBodyInertia}

-- 4,096: a position's coordinate may be as large, by refusals 12 and 13
abbrev pub position_bound : Float
position_bound = f32 0x4580_0000

-- among the solver's bodies, not moved yet: deltas zero and identity
unfoldable pub solver_body_of : BodyState → SolverBody
solver_body_of b =
    record { linear_velocity = b.linear_velocity; angular_velocity = b.angular_velocity; delta_position = origin; delta_rotation = identity }

-- b with the displacement x and the turn q since the step began
abbrev pub with_delta : SolverBody → Vec3 → Quat → SolverBody
with_delta b x q =
    record { linear_velocity = b.linear_velocity; angular_velocity = b.angular_velocity; delta_position = x; delta_rotation = q }

-- b with the velocities v and ω
abbrev pub with_velocity : SolverBody → Vec3 → Vec3 → SolverBody
with_velocity b v ω =
    record { linear_velocity = v; angular_velocity = ω; delta_position = b.delta_position; delta_rotation = b.delta_rotation }

abbrev pub dummy_body : SolverBody
dummy_body =
    record { linear_velocity = origin; angular_velocity = origin; delta_position = origin; delta_rotation = identity }

-- nothing moves it
abbrev pub dummy_inertia : SolverBodyInertia
dummy_inertia =
    record {
      inv_mass = f0;
      inv_angular_inertia = zero_tensor;
      translation_x_locked = false;
      translation_y_locked = false;
      translation_z_locked = false;
    }

-- nothing moves along a locked axis
unfoldable pub unlocked : Bool → Float → Float
unlocked locked m = if locked then f0 else m

abbrev pub unlocked_axes : SolverBodyInertia → Vec3 → Vec3
unlocked_axes i v =
    record {
      x = unlocked i.translation_x_locked v.x;
      y = unlocked i.translation_y_locked v.y;
      z = unlocked i.translation_z_locked v.z;
    }

unfoldable pub effective_inv_mass : SolverBodyInertia → Vec3
effective_inv_mass i = unlocked_axes i (record { x = i.inv_mass; y = i.inv_mass; z = i.inv_mass })
