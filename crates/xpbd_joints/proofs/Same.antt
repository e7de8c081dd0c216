-- Each kind's solve, as the code's contracts have it, is the run of its steps.
use Rattle.std.specs.Prelude.{Option, None, Some, if◌then◌else◌}
use mathlib.Core.Path.{◌≡◌, refl, sym, ap, ◌∙◌}
use mathlib.Core.Bool.{Bool, true, false, not}
use lib.Ieee.{Float, neg, eq, le}
use Rattle.scalar.specs.Arith.{f0, epsilon, pi}
use Rattle.vector.specs.Vector.{origin, scale_of, cross_of, length_of, length_squared_of}
use Rattle.vector.specs.Rotation.{turn_of}
use Rattle.vector.specs.declared.Vec3.{Vec3}
use Rattle.vector.specs.declared.SymmetricTensor.{SymmetricTensor}
use Rattle.joints.specs.Limit.{distance_correction, angle_correction}
use Rattle.joints.specs.declared.Joint.TheVariants as kind
use Rattle.joints.specs.declared.AngleLimit.{AngleLimit}
use Rattle.joints.specs.declared.AngleCorrection.{AngleCorrection}
use Rattle.joints.specs.declared.AngleCorrection.TheVariants as limit
use Rattle.joints.specs.declared.DistanceLimit.{DistanceLimit}
use Rattle.joints.specs.declared.motor.AngularMotor.{AngularMotor}
use Rattle.joints.specs.declared.motor.LinearMotor.{LinearMotor}
use Rattle.joints.specs.declared.fixed.FixedJoint.{FixedJoint}
use Rattle.joints.specs.declared.revolute.RevoluteJoint.{RevoluteJoint}
use Rattle.joints.specs.declared.prismatic.PrismaticJoint.{PrismaticJoint}
use Rattle.joints.specs.declared.spherical.SphericalJoint.{SphericalJoint}
use Rattle.joints.specs.declared.distance.DistanceJoint.{DistanceJoint}
use Rattle.solver_body.specs.declared.RigidBody.{RigidBody}
use Rattle.solver_body.specs.declared.SolverBodyInertia.{SolverBodyInertia}
use Rattle.solver_body.specs.declared.BodyPair.{BodyPair}
use Rattle.xpbd.specs.Multiplier.{lagrange_update}
use Rattle.xpbd.specs.Positional.{weight, separation_of}
use Rattle.xpbd.specs.Angular.{angular_impulse_applied}
use Rattle.xpbd.specs.Parts.{point_prepared, angle_prepared}
use Rattle.xpbd.specs.FixedAngle.{rotation_difference_of}
use Rattle.xpbd.specs.Parts.{correction_impulse, position_corrected, aligned, point_solved, angle_corrected, angle_solved}
use Rattle.xpbd.specs.declared.angular_constraint.Corrected.{Corrected}
use Rattle.xpbd.specs.declared.point_constraint.PointConstraintShared.{PointConstraintShared}
use Rattle.xpbd.specs.declared.fixed_angle_constraint.FixedAngleConstraintShared.{FixedAngleConstraintShared}
use Rattle.xpbd.specs.declared.Solved.{Solved}
use Rattle.xpbd_joints.specs.Solved.{fixed_prepared, distance_prepared, revolute_prepared, prismatic_prepared, matrix_point, spherical_prepared}
use Rattle.xpbd_joints.specs.Revolute.{angular_motor_given}
use Rattle.xpbd_joints.specs.Prismatic.{linear_motor_given, slide_correction}
use Rattle.xpbd_joints.specs.Spherical.{swing_correction, twist_correction}
use Rattle.xpbd_joints.specs.Stage.{Reads, point, angle, hinge_align, hinge_limit, slide_align, swing, twist, Entry, Correction, limit_asked, Setting, entry_of, correction_of, multiplier_at, total_change, after_of}
use Rattle.xpbd_joints.specs.Steps.{totals, no_totals, Slot, first, second, third, fourth, added, Step, compliant, hinge_motor, slide_motor, steps_of, Run, stage_at, uncalled, hinge_driven, slide_driven, stepped, run}
use Rattle.xpbd_joints.specs.Solved.{Driven, setting_of, with_total, align_stage, limit_stage, fixed_solved, distance_solved, axes_stage, driven_by, motor_stage, angle_limit_stage, revolute_solved, driven_along, linear_motor_stage, position_stage, prismatic_solved, swing_stage, twist_stage, spherical_solved}
use Rattle.xpbd_joints.specs.declared.JointTotals.{JointTotals}
use Rattle.xpbd_joints.specs.declared.distance.DistanceJointSolverData.{DistanceJointSolverData}

-- f of a choice
through : {A B : Type 0} (f : A → B) (v : Bool) (x y : A) → f (if v then x else y) ≡ (if v then f x else f y)
through f true x y = refl
through f false x y = refl

swap : {A : Type 0} (v : Bool) (x y : A) → (if not v then x else y) ≡ (if v then y else x)
swap true x y = refl
swap false x y = refl

-- ---- a total, and a stage's answer put back among the totals

abbrev at : Slot → JointTotals → Vec3
at first t = t.first
at second t = t.second
at third t = t.third
at fourth t = t.fourth

abbrev put : Slot → Vec3 → JointTotals → JointTotals
put first v t = totals v t.second t.third t.fourth
put second v t = totals t.first v t.third t.fourth
put third v t = totals t.first t.second v t.fourth
put fourth v t = totals t.first t.second t.third v

put_at : (l : Slot) (t : JointTotals) → put l (at l t) t ≡ t
put_at first t = refl
put_at second t = refl
put_at third t = refl
put_at fourth t = refl

abbrev from : BodyPair → JointTotals → Run
from b t = record { bodies = b; totals = t }

abbrev stage_run : Slot → JointTotals → Solved Vec3 → Run
stage_run l t s = from s.bodies (put l s.solver_data t)

abbrev added_to : Slot → JointTotals → Corrected → Run
added_to l t a = from a.bodies (added l a.lagrange t)

placed : (l : Slot) (t : JointTotals) (a : Corrected) → added_to l t a ≡ stage_run l t (with_total (at l t) a)
placed first t a = refl
placed second t a = refl
placed third t a = refl
placed fourth t a = refl

abbrev point_reads : PointConstraintShared → Reads
point_reads p = point p.world_r1 p.world_r2 p.center_difference

abbrev point_run : JointTotals → Solved PointConstraintShared → Run
point_run t p = from p.bodies (put first p.solver_data.total_lagrange t)

abbrev angle_run : JointTotals → Solved FixedAngleConstraintShared → Run
angle_run t p = from p.bodies (put second p.solver_data.total_lagrange t)

module _ (i₁ i₂ : SolverBodyInertia) (h : Float) where
  abbrev S : Setting
  S = setting_of i₁ i₂ h

  abbrev I₁ : SymmetricTensor
  I₁ = i₁.inv_angular_inertia

  abbrev I₂ : SymmetricTensor
  I₂ = i₂.inv_angular_inertia

  abbrev entry : Reads → BodyPair → Entry
  entry k b = entry_of (stage_at S k f0 b)

  -- ---- angular stages

  -- what a correction does
  abbrev turned_by : Slot → Correction → Float → BodyPair → JointTotals → Run
  turned_by l c α b t =
      let Δλ = lagrange_update f0 c.error c.w₁ c.w₂ α h in
      if c.called
      then from (angular_impulse_applied b I₁ I₂ (scale_of c.n (neg Δλ))) (added l (scale_of c.n Δλ) t)
      else uncalled c.still l (from b t)

  rotation : (k : Reads) (l : Slot) (d : Vec3) (α : Float) (b : BodyPair) (t : JointTotals)
      → turned_by l (limit_asked (entry k b) (limit.Some d)) α b t ≡ stage_run l t (align_stage b I₁ I₂ d (at l t) α h)
  unfolding align_stage aligned
  rotation k l d α b t = let v = le (length_of d) epsilon in swap v _ _ ∙ sym (through (added_to l t) v _ _) ∙ placed l t _

  limit_is : (k : Reads) (l : Slot) (c : AngleCorrection) (α : Float) (b : BodyPair) (t : JointTotals)
      → turned_by l (limit_asked (entry k b) c) α b t ≡ stage_run l t (limit_stage c b I₁ I₂ (at l t) α h)
  unfolding limit_stage
  limit_is k l limit.None α b t = ap (from b) (sym (put_at l t))
  limit_is k l (limit.Some d) α b t = rotation k l d α b t

  hinge_align_lem : (a₁ a₂ : Vec3) (α : Float) (b : BodyPair) (t : JointTotals)
      → stepped S (compliant second (hinge_align a₁ a₂) α) (from b t) ≡ stage_run second t (axes_stage b I₁ I₂ a₁ a₂ t.second α h)
  unfolding axes_stage correction_of after_of total_change multiplier_at
  hinge_align_lem a₁ a₂ α b t =
      rotation (hinge_align a₁ a₂) second (cross_of (turn_of b.body1.delta_rotation a₁) (turn_of b.body2.delta_rotation a₂)) α b t

  hinge_limit_lem : (o : Option AngleLimit) (a₁ b₁ b₂ : Vec3) (α : Float) (b : BodyPair) (t : JointTotals)
      → stepped S (compliant third (hinge_limit o a₁ b₁ b₂) α) (from b t) ≡ stage_run third t (angle_limit_stage o b I₁ I₂ a₁ b₁ b₂ t.third α h)
  unfolding angle_limit_stage correction_of after_of total_change multiplier_at
  hinge_limit_lem None a₁ b₁ b₂ α b t = refl
  hinge_limit_lem (Some l) a₁ b₁ b₂ α b t =
      let q₁ = b.body1.delta_rotation in
      limit_is (hinge_limit (Some l) a₁ b₁ b₂) third (angle_correction l (turn_of q₁ a₁) (turn_of q₁ b₁) (turn_of b.body2.delta_rotation b₂) pi) α b t

  swing_is : (o : Option AngleLimit) (a₁ a₂ : Vec3) (α : Float) (b : BodyPair) (t : JointTotals)
      → stepped S (compliant second (swing o a₁ a₂) α) (from b t) ≡ stage_run second t (swing_stage o b I₁ I₂ a₁ a₂ t.second α h)
  unfolding swing_stage correction_of after_of total_change multiplier_at
  swing_is None a₁ a₂ α b t = refl
  swing_is (Some l) a₁ a₂ α b t =
      limit_is (swing (Some l) a₁ a₂) second (swing_correction l (turn_of b.body1.delta_rotation a₁) (turn_of b.body2.delta_rotation a₂)) α b t

  twist_is : (o : Option AngleLimit) (a₁ a₂ b₁ b₂ : Vec3) (α : Float) (b : BodyPair) (t : JointTotals)
      → stepped S (compliant third (twist o a₁ a₂ b₁ b₂) α) (from b t) ≡ stage_run third t (twist_stage o b I₁ I₂ a₁ a₂ b₁ b₂ t.third α h)
  unfolding twist_stage correction_of after_of total_change multiplier_at
  twist_is None a₁ a₂ b₁ b₂ α b t = refl
  twist_is (Some l) a₁ a₂ b₁ b₂ α b t =
      let q₁ = b.body1.delta_rotation in
      let q₂ = b.body2.delta_rotation in
      limit_is (twist (Some l) a₁ a₂ b₁ b₂) third (twist_correction l (turn_of q₁ a₁) (turn_of q₂ a₂) (turn_of q₁ b₁) (turn_of q₂ b₂) h) α b t

  angle_is : (c : FixedAngleConstraintShared) (α : Float) (b : BodyPair) (t : JointTotals) → c.total_lagrange ≡ t.second
      → stepped S (compliant second (angle c.rotation_difference) α) (from b t) ≡ angle_run t (angle_solved c b I₁ I₂ α h)
  unfolding angle_solved aligned correction_of after_of total_change multiplier_at
  angle_is c α b t e =
      let v = le (length_of (rotation_difference_of c.rotation_difference b.body1.delta_rotation b.body2.delta_rotation)) epsilon in
      rw (← e) (swap v _ _ ∙ sym (through (λ (a : Corrected). angle_run t (angle_corrected c a)) v _ _))

  -- ---- position stages

  abbrev apart : BodyPair → Vec3 → Vec3 → Vec3 → Vec3
  apart b r₁ r₂ d =
      separation_of b.body1.delta_position b.body2.delta_position (turn_of b.body1.delta_rotation r₁) (turn_of b.body2.delta_rotation r₂) d

  point_is : (c : PointConstraintShared) (α : Float) (b : BodyPair) (t : JointTotals) → c.total_lagrange ≡ t.first
      → stepped S (compliant first (point_reads c) α) (from b t) ≡ point_run t (point_solved c b i₁ i₂ α h)
  unfolding point_solved correction_impulse position_corrected weight correction_of after_of total_change multiplier_at
  point_is c α b t e =
      let v = eq (length_squared_of (apart b c.world_r1 c.world_r2 c.center_difference)) f0 in
      rw (← e) (swap v _ _ ∙ sym (through (point_run t) v _ _))

  slide_align_lem : (o : Option DistanceLimit) (r₁ r₂ d axis : Vec3) (α : Float) (b : BodyPair) (t : JointTotals)
      → stepped S (compliant first (slide_align o r₁ r₂ d axis) α) (from b t) ≡ stage_run first t (position_stage o b i₁ i₂ r₁ r₂ d axis t.first α h)
  unfolding position_stage correction_impulse position_corrected weight correction_of after_of total_change multiplier_at
  slide_align_lem o r₁ r₂ d axis α b t =
      let v = le (length_of (slide_correction o (apart b r₁ r₂ d) (turn_of b.body1.delta_rotation axis))) epsilon in
      swap v _ _ ∙ sym (through (stage_run first t) v _ _)

  -- ---- motors

  hinge_given_lem : (g : Option Float) (a : Vec3) (b : BodyPair) (t : JointTotals) → hinge_driven S g a (from b t) ≡ stage_run fourth t (driven_by g b I₁ I₂ a t.fourth)
  unfolding driven_by
  hinge_given_lem None a b t = refl
  hinge_given_lem (Some Δλ) a b t = refl

  hinge_motor_lem : (m : AngularMotor) (a₁ b₁ b₂ : Vec3) (b : BodyPair) (t : JointTotals)
      → stepped S (hinge_motor m a₁ b₁ b₂) (from b t) ≡ stage_run fourth t (motor_stage m b I₁ I₂ a₁ b₁ b₂ t.fourth h)
  unfolding motor_stage
  hinge_motor_lem m a₁ b₁ b₂ b t = hinge_given_lem (angular_motor_given m b I₁ I₂ a₁ b₁ b₂ h) (turn_of b.body1.delta_rotation a₁) b t

  abbrev slide_run : JointTotals → Driven → Run
  slide_run t d =
      from d.bodies
      (totals d.total_position_lagrange t.second (record { x = d.total_motor_lagrange; y = t.third.y; z = t.third.z }) t.fourth)

  slide_given_lem : (g : Option Float) (r₁ r₂ a : Vec3) (b : BodyPair) (t : JointTotals)
      → slide_driven S g r₁ r₂ a (from b t) ≡ slide_run t (driven_along g b i₁ i₂ r₁ r₂ a t.first t.third.x)
  unfolding driven_along
  slide_given_lem None r₁ r₂ a b t = refl
  slide_given_lem (Some Δλ) r₁ r₂ a b t = refl

  slide_motor_lem : (m : LinearMotor) (arm₁ arm₂ d axis : Vec3) (b : BodyPair) (t : JointTotals)
      → stepped S (slide_motor m arm₁ arm₂ d axis) (from b t) ≡ slide_run t (linear_motor_stage m b i₁ i₂ arm₁ arm₂ d axis t.first t.third.x h)
  unfolding linear_motor_stage
  slide_motor_lem m arm₁ arm₂ d axis b t =
      let q₁ = b.body1.delta_rotation in
      slide_given_lem (linear_motor_given m b i₁ i₂ arm₁ arm₂ d axis h) (turn_of q₁ arm₁) (turn_of b.body2.delta_rotation arm₂) (turn_of q₁ axis) b t

  -- ---- joints, from totals of zero

  module _ (b₁ b₂ : RigidBody) (b : BodyPair) where
    abbrev start : Run
    start = from b no_totals

    pub fixed_is : (j : FixedJoint)
        → let s = fixed_solved j (fixed_prepared j b₁ b₂) b i₁ i₂ h in
        run S (steps_of (kind.Fixed j) b₁ b₂) start
        ≡ from s.bodies (totals s.solver_data.point_constraint.total_lagrange s.solver_data.angle_constraint.total_lagrange origin origin)
    unfolding run steps_of fixed_solved fixed_prepared point_prepared angle_prepared
    fixed_is j =
        let k = fixed_prepared j b₁ b₂ in
        let s = angle_solved k.angle_constraint b I₁ I₂ j.angle_compliance h in
        ap (stepped S (compliant first (point_reads k.point_constraint) j.point_compliance))
        (angle_is k.angle_constraint j.angle_compliance b no_totals refl)
        ∙ point_is k.point_constraint j.point_compliance s.bodies (angle_run no_totals s).totals refl

    pub revolute_is : (j : RevoluteJoint)
        → let s = revolute_solved j (revolute_prepared j b₁ b₂) b i₁ i₂ h in
        let d = s.solver_data in
        run S (steps_of (kind.Revolute j) b₁ b₂) start
        ≡ from s.bodies (totals d.point_constraint.total_lagrange d.total_align_lagrange d.total_limit_lagrange d.total_motor_lagrange)
    unfolding run steps_of revolute_solved revolute_prepared point_prepared
    revolute_is j =
        let k = revolute_prepared j b₁ b₂ in
        let point : Step = compliant first (point_reads k.point_constraint) j.point_compliance in
        let limit : Step = compliant third (hinge_limit j.angle_limit k.a1 k.b1 k.b2) j.limit_compliance in
        let motor : Step = hinge_motor j.motor k.a1 k.b1 k.b2 in
        let align = axes_stage b I₁ I₂ k.a1 k.a2 origin j.align_compliance h in
        let t₁ = put second align.solver_data no_totals in
        let drive = motor_stage j.motor align.bodies I₁ I₂ k.a1 k.b1 k.b2 origin h in
        let t₂ = put fourth drive.solver_data t₁ in
        let stop = angle_limit_stage j.angle_limit drive.bodies I₁ I₂ k.a1 k.b1 k.b2 origin j.limit_compliance h in
        ap (λ (r : Run). stepped S point (stepped S limit (stepped S motor r))) (hinge_align_lem k.a1 k.a2 j.align_compliance b no_totals)
        ∙ ap (λ (r : Run). stepped S point (stepped S limit r)) (hinge_motor_lem j.motor k.a1 k.b1 k.b2 align.bodies t₁)
        ∙ ap (stepped S point) (hinge_limit_lem j.angle_limit k.a1 k.b1 k.b2 j.limit_compliance drive.bodies t₂)
        ∙ point_is k.point_constraint j.point_compliance stop.bodies (put third stop.solver_data t₂) refl

    pub prismatic_is : (j : PrismaticJoint)
        → let s = prismatic_solved j (prismatic_prepared j b₁ b₂) b i₁ i₂ h in
        let d = s.solver_data in
        run S (steps_of (kind.Prismatic j) b₁ b₂) start
        ≡ from s.bodies (totals d.total_position_lagrange d.angle_constraint.total_lagrange (record { x = d.total_motor_lagrange; y = f0; z = f0 }) origin)
    unfolding run steps_of prismatic_solved prismatic_prepared angle_prepared
    prismatic_is j =
        let k = prismatic_prepared j b₁ b₂ in
        let r₁ = k.world_r1 in
        let r₂ = k.world_r2 in
        let d = k.center_difference in
        let axis = k.free_axis1 in
        let motor : Step = slide_motor j.motor r₁ r₂ d axis in
        let align : Step = compliant first (slide_align j.limits r₁ r₂ d axis) j.align_compliance in
        let turn = angle_solved k.angle_constraint b I₁ I₂ j.angle_compliance h in
        let t₁ = put second turn.solver_data.total_lagrange no_totals in
        let drive = linear_motor_stage j.motor turn.bodies i₁ i₂ r₁ r₂ d axis origin f0 h in
        ap (λ (r : Run). stepped S align (stepped S motor r)) (angle_is k.angle_constraint j.angle_compliance b no_totals refl)
        ∙ ap (stepped S align) (slide_motor_lem j.motor r₁ r₂ d axis turn.bodies t₁)
        ∙ slide_align_lem j.limits r₁ r₂ d axis j.align_compliance drive.bodies (slide_run t₁ drive).totals

    pub spherical_is : (j : SphericalJoint)
        → let s = spherical_solved j (spherical_prepared j b₁ b₂) b i₁ i₂ h in
        let d = s.solver_data in
        run S (steps_of (kind.Spherical j) b₁ b₂) start
        ≡ from s.bodies (totals d.point_constraint.total_lagrange d.total_swing_lagrange d.total_twist_lagrange origin)
    unfolding run steps_of spherical_solved spherical_prepared matrix_point
    spherical_is j =
        let k = spherical_prepared j b₁ b₂ in
        let a₁ = k.swing_axis1 in
        let a₂ = k.swing_axis2 in
        let second' : Step = compliant second (swing j.swing_limit a₁ a₂) j.swing_compliance in
        let third' : Step = compliant third (twist j.twist_limit a₁ a₂ k.twist_axis1 k.twist_axis2) j.twist_compliance in
        let held = point_solved k.point_constraint b i₁ i₂ j.point_compliance h in
        let t₁ = put first held.solver_data.total_lagrange no_totals in
        let swung = swing_stage j.swing_limit held.bodies I₁ I₂ a₁ a₂ origin j.swing_compliance h in
        ap (λ (r : Run). stepped S third' (stepped S second' r)) (point_is k.point_constraint j.point_compliance b no_totals refl)
        ∙ ap (stepped S third') (swing_is j.swing_limit a₁ a₂ j.swing_compliance held.bodies t₁)
        ∙ twist_is j.twist_limit a₁ a₂ k.twist_axis1 k.twist_axis2 j.twist_compliance swung.bodies (put second swung.solver_data t₁)

    pub distance_is : (j : DistanceJoint)
        → let s = distance_solved j (distance_prepared j b₁ b₂) b i₁ i₂ h in
        run S (steps_of (kind.Distance j) b₁ b₂) start ≡ from s.bodies (totals s.solver_data.total_lagrange origin origin origin)
    unfolding run steps_of distance_solved distance_prepared correction_impulse position_corrected weight correction_of after_of total_change multiplier_at
    distance_is j =
        let k = distance_prepared j b₁ b₂ in
        let v = le (distance_correction j.limits (apart b k.world_r1 k.world_r2 k.center_difference)).magnitude epsilon in
        swap v _ _ ∙ sym (through (λ (s : Solved DistanceJointSolverData). from s.bodies (totals s.solver_data.total_lagrange origin origin origin)) v _ _)
