-- A joint's solve is its list of steps: compliance stages (Müller 2020) and motors, each from the bodies that the one before left. The order of a kind's steps, the motors and the totals are the Rust's own. Definitions only.
use Rattle.std.specs.Prelude.{Bool, true, false, List, [], ◌∷◌, ◌++◌, Option, None, Some, Float, if◌then◌else◌}
use Rattle.std.specs.Float.Ieee.{neg}
use Rattle.scalar.specs.Arith.{◌⊕◌, ◌⊘◌, f0}
use Rattle.vector.specs.Vector.{origin, add_of, neg_of, scale_of, div_of, any_orthonormal}
use Rattle.vector.specs.Rotation.{turn_of}
use Rattle.vector.specs.declared.Vec3.{Vec3}
use Rattle.joints.specs.declared.Joint.{Joint}
use Rattle.joints.specs.declared.Joint.TheVariants.{Fixed, Revolute, Prismatic, Spherical, Distance}
use Rattle.joints.specs.declared.motor.AngularMotor.{AngularMotor}
use Rattle.joints.specs.declared.motor.LinearMotor.{LinearMotor}
use Rattle.solver_body.specs.declared.RigidBody.{RigidBody}
use Rattle.solver_body.specs.declared.BodyPair.{BodyPair}
use Rattle.xpbd.specs.Positional.{impulse_applied, anchor_arm, center_difference_of}
use Rattle.xpbd.specs.Angular.{angular_impulse_applied}
use Rattle.xpbd_joints.specs.Revolute.{revolute_warmed, angular_motor_given}
use Rattle.xpbd_joints.specs.Prismatic.{prismatic_warmed, linear_motor_given}
use Rattle.xpbd_joints.specs.Prepared.{offset, axis_in, matrix_arm, matrix_axis}
use Rattle.xpbd_joints.specs.Stage.{Reads, point, angle, hinge_align, hinge_limit, slide_align, swing, twist, tether, Setting, Stage, entry_of, correction_of, total_change, after_of}
use Rattle.xpbd_joints.specs.declared.JointTotals.{JointTotals}

-- ---- a joint's totals

abbrev pub totals : Vec3 → Vec3 → Vec3 → Vec3 → JointTotals
totals a b c d = record { first = a; second = b; third = c; fourth = d }

abbrev pub no_totals : JointTotals
no_totals = totals origin origin origin origin

-- the place of a total
pub data Slot : Type 0 where
  first second third fourth : Slot

-- p more at a place
abbrev pub added : Slot → Vec3 → JointTotals → JointTotals
added first p t = totals (add_of t.first p) t.second t.third t.fourth
added second p t = totals t.first (add_of t.second p) t.third t.fourth
added third p t = totals t.first t.second (add_of t.third p) t.fourth
added fourth p t = totals t.first t.second t.third (add_of t.fourth p)

-- ---- the steps

-- a compliance stage, with the place of its total and its compliance; a hinge's motor, with its axes; a slide's motor, with its arms, the difference of the centres and its axis
pub data Step : Type 0 where
  compliant : Slot → Reads → Float → Step
  hinge_motor : AngularMotor → Vec3 → Vec3 → Vec3 → Step
  slide_motor : LinearMotor → Vec3 → Vec3 → Vec3 → Vec3 → Step

-- in order, where the bodies are
unfoldable pub steps_of : Joint → RigidBody → RigidBody → List Step
steps_of (Fixed j) b₁ b₂ =
    compliant second (angle (offset b₁ b₂ j.frame1 j.frame2)) j.angle_compliance
    ∷ compliant first (point (anchor_arm b₁ j.frame1.anchor) (anchor_arm b₂ j.frame2.anchor) (center_difference_of b₁ b₂)) j.point_compliance
    ∷ []
steps_of (Revolute j) b₁ b₂ =
    let a₁ = axis_in b₁ j.frame1 j.hinge_axis in
    let c₁ = axis_in b₁ j.frame1 (any_orthonormal j.hinge_axis) in
    let c₂ = axis_in b₂ j.frame2 (any_orthonormal j.hinge_axis) in
    compliant second (hinge_align a₁ (axis_in b₂ j.frame2 j.hinge_axis)) j.align_compliance
    ∷ hinge_motor j.motor a₁ c₁ c₂
    ∷ compliant third (hinge_limit j.angle_limit a₁ c₁ c₂) j.limit_compliance
    ∷ compliant first (point (anchor_arm b₁ j.frame1.anchor) (anchor_arm b₂ j.frame2.anchor) (center_difference_of b₁ b₂)) j.point_compliance
    ∷ []
steps_of (Prismatic j) b₁ b₂ =
    let r₁ = anchor_arm b₁ j.frame1.anchor in
    let r₂ = anchor_arm b₂ j.frame2.anchor in
    let axis = axis_in b₁ j.frame1 j.slider_axis in
    compliant second (angle (offset b₁ b₂ j.frame1 j.frame2)) j.angle_compliance
    ∷ slide_motor j.motor r₁ r₂ (center_difference_of b₁ b₂) axis
    ∷ compliant first (slide_align j.limits r₁ r₂ (center_difference_of b₁ b₂) axis) j.align_compliance
    ∷ []
steps_of (Spherical j) b₁ b₂ =
    let swing₁ = matrix_axis b₁ j.frame1 (any_orthonormal j.twist_axis) in
    let swing₂ = matrix_axis b₂ j.frame2 (any_orthonormal j.twist_axis) in
    let twist₁ = matrix_axis b₁ j.frame1 j.twist_axis in
    let twist₂ = matrix_axis b₂ j.frame2 j.twist_axis in
    compliant first (point (matrix_arm b₁ j.frame1.anchor) (matrix_arm b₂ j.frame2.anchor) (center_difference_of b₁ b₂)) j.point_compliance
    ∷ compliant second (swing j.swing_limit swing₁ swing₂) j.swing_compliance
    ∷ compliant third (twist j.twist_limit swing₁ swing₂ twist₁ twist₂) j.twist_compliance
    ∷ []
steps_of (Distance j) b₁ b₂ =
    compliant first (tether j.limits (anchor_arm b₁ j.anchor1) (anchor_arm b₂ j.anchor2) (center_difference_of b₁ b₂)) j.compliance ∷ []

-- ---- the solve

pub record Run : Type 0 where
  pub bodies : BodyPair
  pub totals : JointTotals

-- a motor's push: its cap and what its operation gives
pub record MotorPush : Type 0 where
  pub cap : Float
  pub dt : Float
  pub given : Option Float

-- zero where it gives none
abbrev pub push_multiplier : Option Float → Float
push_multiplier None = f0
push_multiplier (Some Δλ) = Δλ

pub data Event : Type 0 where
  a_stage : Stage → Event
  a_push : MotorPush → Event

abbrev pub is_called : Stage → Bool
is_called s = (correction_of (entry_of s)).called

-- a stage that returns early: nothing, or zero added to its total
abbrev pub uncalled : Bool → Slot → Run → Run
uncalled true l r = r
uncalled false l r = record { bodies = r.bodies; totals = added l origin r.totals }

abbrev pub stage_done : Slot → Stage → Run → Run
stage_done l s r =
    if is_called s then record { bodies = after_of s; totals = added l (total_change s) r.totals }
    else uncalled (correction_of (entry_of s)).still l r

module _ (S : Setting) where
  abbrev pub stage_at : Reads → Float → BodyPair → Stage
  stage_at k α b = record { reads = k; setting = S; bodies = b; compliance = α }

  -- what a motor's operation gives
  abbrev pub hinge_given : AngularMotor → Vec3 → Vec3 → Vec3 → BodyPair → Option Float
  hinge_given m a₁ b₁ b₂ b = angular_motor_given m b S.inertia1.inv_angular_inertia S.inertia2.inv_angular_inertia a₁ b₁ b₂ S.dt

  abbrev pub slide_given : LinearMotor → Vec3 → Vec3 → Vec3 → Vec3 → BodyPair → Option Float
  slide_given m arm₁ arm₂ d axis b = linear_motor_given m b S.inertia1 S.inertia2 arm₁ arm₂ d axis S.dt

  -- a hinge's motor turns the bodies about its axis a, and adds to the fourth total
  abbrev pub hinge_driven : Option Float → Vec3 → Run → Run
  hinge_driven None a r = r
  hinge_driven (Some Δλ) a r =
      record {
        bodies = angular_impulse_applied r.bodies S.inertia1.inv_angular_inertia S.inertia2.inv_angular_inertia (scale_of a (neg Δλ));
        totals = added fourth (scale_of a Δλ) r.totals;
      }

  -- a slide's motor pushes them along its axis a, and adds to the first total and to the x of the third
  abbrev pub slide_driven : Option Float → Vec3 → Vec3 → Vec3 → Run → Run
  slide_driven None r₁ r₂ a r = r
  slide_driven (Some Δλ) r₁ r₂ a r =
      let t = added first (scale_of a Δλ) r.totals in
      let motor : Vec3 = record { x = t.third.x ⊕ Δλ; y = t.third.y; z = t.third.z } in
      record {
        bodies = impulse_applied r.bodies S.inertia1 S.inertia2 (neg_of (scale_of a Δλ)) r₁ r₂;
        totals = totals t.first t.second motor t.fourth;
      }

  abbrev pub stepped : Step → Run → Run
  stepped (compliant l k α) r = stage_done l (stage_at k α r.bodies) r
  stepped (hinge_motor m a₁ b₁ b₂) r =
      if S.motors then hinge_driven (hinge_given m a₁ b₁ b₂ r.bodies) (turn_of r.bodies.body1.delta_rotation a₁) r else r
  stepped (slide_motor m arm₁ arm₂ d axis) r =
      let q₁ = r.bodies.body1.delta_rotation in
      let r₂ = turn_of r.bodies.body2.delta_rotation arm₂ in
      if S.motors then slide_driven (slide_given m arm₁ arm₂ d axis r.bodies) (turn_of q₁ arm₁) r₂ (turn_of q₁ axis) r else r

  unfoldable pub run : List Step → Run → Run
  run [] r = r
  run (s ∷ l) r = run l (stepped s r)

  -- the stages that call and the pushes, each where `run` makes it
  abbrev pub events_of : Step → BodyPair → List Event
  events_of (compliant l k α) b = if is_called (stage_at k α b) then a_stage (stage_at k α b) ∷ [] else []
  events_of (hinge_motor m a₁ b₁ b₂) b =
      if S.motors then a_push (record { cap = m.max_torque; dt = S.dt; given = hinge_given m a₁ b₁ b₂ b }) ∷ [] else []
  events_of (slide_motor m arm₁ arm₂ d axis) b =
      if S.motors then a_push (record { cap = m.max_force; dt = S.dt; given = slide_given m arm₁ arm₂ d axis b }) ∷ [] else []

  unfoldable pub events : List Step → Run → List Event
  events [] r = []
  events (s ∷ l) r = events_of s r.bodies ++ events l (stepped s r)

  -- ---- the warm start, with the coefficient c and the last totals: a motor's warm value is its total / dt
  abbrev pub warmed_by : Float → JointTotals → Step → BodyPair → BodyPair
  warmed_by c last (compliant l k α) b = b
  warmed_by c last (hinge_motor m a₁ b₁ b₂) b =
      revolute_warmed m b S.inertia1.inv_angular_inertia S.inertia2.inv_angular_inertia (div_of last.fourth S.dt) c
  warmed_by c last (slide_motor m arm₁ arm₂ d axis) b = prismatic_warmed m b S.inertia1 S.inertia2 arm₁ arm₂ axis (last.third.x ⊘ S.dt) c

  unfoldable pub warmed : Float → JointTotals → List Step → BodyPair → BodyPair
  warmed c last [] b = b
  warmed c last (s ∷ l) b = warmed c last l (warmed_by c last s b)
