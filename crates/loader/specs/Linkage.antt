-- A card as the solver has it: document 01, 'The card', decoded. A record is read by its words, the numbers before its floats, and by its floats.
use Rattle.std.specs.Prelude.{ℕ, ◌+◌, Bool, Option, None, Some, List, [], ◌∷◌, ◌++◌, map, get_or, take, drop, eqb, pos, Float, if◌then◌else◌}
use Rattle.std.specs.Float.{binary32}
use Rattle.std.specs.Float.Ieee.{of_int}
use Rattle.scalar.specs.Arith.{◌⊘◌, f32, f1}
use Rattle.scalar.specs.Scalar.{abs_of}
use Rattle.vector.specs.declared.SymmetricTensor.{SymmetricTensor}
use Rattle.joints.specs.declared.JointFrame.{JointFrame}
use Rattle.joints.specs.declared.AngleLimit.{AngleLimit}
use Rattle.joints.specs.declared.DistanceLimit.{DistanceLimit}
use Rattle.joints.specs.declared.motor.MotorModel.{MotorModel}
use Rattle.joints.specs.declared.motor.MotorModel.TheVariants.{SpringDamper, AccelerationBased, ForceBased}
use Rattle.joints.specs.declared.motor.AngularMotor.{AngularMotor}
use Rattle.joints.specs.declared.motor.LinearMotor.{LinearMotor}
use Rattle.joints.specs.declared.fixed.FixedJoint.{FixedJoint}
use Rattle.joints.specs.declared.revolute.RevoluteJoint.{RevoluteJoint}
use Rattle.joints.specs.declared.prismatic.PrismaticJoint.{PrismaticJoint}
use Rattle.joints.specs.declared.spherical.SphericalJoint.{SphericalJoint}
use Rattle.joints.specs.declared.distance.DistanceJoint.{DistanceJoint}
use Rattle.joints.specs.declared.Joint.{Joint}
use Rattle.joints.specs.declared.Joint.TheVariants.{Fixed, Revolute, Prismatic, Spherical, Distance}
use Rattle.solver_body.specs.Body.{dummy_inertia}
use Rattle.solver_body.specs.declared.BodyState.{BodyState}
use Rattle.solver_body.specs.declared.SolverBodyInertia.{SolverBodyInertia}
use Rattle.numbers.specs.Numbers.{number_in, vec3_in, quat_in}
use Rattle.card.specs.Card.{at, flag, motored, Card, float, vec3, quat}
use Rattle.loader.specs.declared.body.LinkBody.{LinkBody}
use Rattle.loader.specs.declared.joint.LinkJoint.{LinkJoint}

pub record Linkage : Type 0 where
  pub dt : Float
  pub gravity : Float
  pub warm_coefficient : Float
  pub bodies : List LinkBody
  pub joints : List LinkJoint

-- ---- a body. Words: anchored 0, locks 1 to 3. Floats: centre of mass 0, inverse mass 3, inverse inertia 4

abbrev pub tensor_in : List Float → SymmetricTensor
tensor_in floats = let x = number_in floats in record { xx = x 4; xy = x 5; xz = x 6; yy = x 7; yz = x 8; zz = x 9 }

module _ (words : List ℕ) (floats : List Float) where
  abbrev pub moving_inertia_in : SolverBodyInertia
  moving_inertia_in =
      record {
        inv_mass = number_in floats 3;
        inv_angular_inertia = tensor_in floats;
        translation_x_locked = flag 1 words;
        translation_y_locked = flag 2 words;
        translation_z_locked = flag 3 words;
      }

  -- an anchored body's inertia is the dummy's
  unfoldable pub body_in : LinkBody
  body_in =
      record { anchored = flag 0 words; inertia = if flag 0 words then dummy_inertia else moving_inertia_in; center_of_mass = vec3_in floats 0 }

-- ---- a joint. Words: kind 0, bodies 1 and 2, first and second limit 3 and 4, motor 5.
-- Floats: anchors 0 and 3, bases 6 and 10, axis 14, compliances 17 to 20, limits 21 and 23, motor 25 to 29

module _ (floats : List Float) where
  abbrev pub frame_in : ℕ → ℕ → JointFrame
  frame_in anchor basis = record { anchor = vec3_in floats anchor; basis = quat_in floats basis }

  -- the limit at place k, where there is one
  abbrev pub angle_limit_in : Bool → ℕ → Option AngleLimit
  angle_limit_in limited k = if limited then Some (record { min = number_in floats k; max = number_in floats (k + 1) }) else None

  abbrev pub distance_limit_in : Bool → ℕ → Option DistanceLimit
  distance_limit_in limited k = if limited then Some (record { min = number_in floats k; max = number_in floats (k + 1) }) else None

  -- compliances point, angle
  unfoldable pub fixed_in : FixedJoint
  fixed_in = record { frame1 = frame_in 0 6; frame2 = frame_in 3 10; point_compliance = number_in floats 17; angle_compliance = number_in floats 18 }

  unfoldable pub distance_in : DistanceJoint
  distance_in =
      record { anchor1 = vec3_in floats 0; anchor2 = vec3_in floats 3; limits = record { min = number_in floats 21; max = number_in floats 22 }; compliance = number_in floats 17 }

module _ (words : List ℕ) (floats : List Float) where
  -- 1 spring-damper, 2 acceleration, 3 force; without a motor it is not read
  unfoldable pub model_in : MotorModel
  model_in =
      let kind = at 5 words in
      let first = number_in floats 28 in
      let second = number_in floats 29 in
      if eqb kind 1 then SpringDamper first second else if eqb kind 2 then AccelerationBased first second else ForceBased first second

  unfoldable pub angular_motor_in : AngularMotor
  angular_motor_in =
      let x = number_in floats in record { enabled = motored words; target_velocity = x 25; target_position = x 26; max_torque = x 27; motor_model = model_in }

  unfoldable pub linear_motor_in : LinearMotor
  linear_motor_in =
      let x = number_in floats in record { enabled = motored words; target_velocity = x 25; target_position = x 26; max_force = x 27; motor_model = model_in }

  -- compliances point, align, limit
  unfoldable pub revolute_in : RevoluteJoint
  revolute_in =
      let x = number_in floats in
      let limit = angle_limit_in floats (flag 3 words) 21 in
      record { frame1 = frame_in floats 0 6; frame2 = frame_in floats 3 10; hinge_axis = vec3_in floats 14; angle_limit = limit; point_compliance = x 17; align_compliance = x 18; limit_compliance = x 19; motor = angular_motor_in }

  -- compliances angle, align
  unfoldable pub prismatic_in : PrismaticJoint
  prismatic_in =
      let x = number_in floats in
      let limit = distance_limit_in floats (flag 3 words) 21 in
      record { frame1 = frame_in floats 0 6; frame2 = frame_in floats 3 10; slider_axis = vec3_in floats 14; limits = limit; angle_compliance = x 17; align_compliance = x 18; motor = linear_motor_in }

  -- compliances point, swing, twist; limits swing, twist
  unfoldable pub spherical_in : SphericalJoint
  spherical_in =
      let x = number_in floats in
      let swing = angle_limit_in floats (flag 3 words) 21 in
      let twist = angle_limit_in floats (flag 4 words) 23 in
      record { frame1 = frame_in floats 0 6; frame2 = frame_in floats 3 10; twist_axis = vec3_in floats 14; swing_limit = swing; twist_limit = twist; point_compliance = x 17; swing_compliance = x 18; twist_compliance = x 19 }

  -- no card that is accepted has a kind above the last
  unfoldable pub kind_in : Joint
  kind_in = get_or (Fixed (fixed_in floats) ∷ Revolute revolute_in ∷ Prismatic prismatic_in ∷ Spherical spherical_in ∷ []) (at 0 words) (Distance (distance_in floats))

-- ---- by the numbers of a record, whose places Card.antt gives

module _ (ns : List ℕ) where
  abbrev pub body_of : LinkBody
  body_of = body_in ns (map f32 (take 3 (drop 13 ns) ++ take 7 (drop 22 ns)))

  -- in size, so that either zero never breaks; a record without a breaking load has zero
  abbrev pub breaking_load_of : Float
  breaking_load_of = abs_of (float ns 37)

  abbrev pub joint_of : LinkJoint
  joint_of = record { body1 = at 1 ns; body2 = at 2 ns; joint = kind_in ns (map f32 (take 30 (drop 7 ns))); breaking_load = breaking_load_of }

  -- a body where the card has it
  abbrev pub start_body : BodyState
  start_body = record { position = vec3 ns 6; rotation = quat ns 9; linear_velocity = vec3 ns 16; angular_velocity = vec3 ns 19 }

unfoldable pub linkage_of : Card → Linkage
linkage_of c =
    let h = c.header in
    let dt = f1 ⊘ of_int binary32 (pos (at 3 h)) in
    record { dt = dt; gravity = float h 5; warm_coefficient = float h 6; bodies = map body_of c.bodies; joints = map joint_of c.joints }
