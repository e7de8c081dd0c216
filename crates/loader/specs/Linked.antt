-- What holds of the joints of an accepted card.
use Rattle.std.specs.Prelude.{ℕ, ◌<◌, Option, None, Some, IfSome, List, [], length, get_or}
use Rattle.std.specs.Coded.{×_prop, Unit-prop}
use Rattle.std.proofs.Math.Dec.{T_prop}
use Rattle.joints.specs.Reach.{InReach, EachAngleLimit}
use Rattle.joints.specs.declared.AngleLimit.{AngleLimit}
use Rattle.joints.specs.declared.Joint.{Joint}
use Rattle.joints.specs.declared.Joint.TheVariants.{Fixed, Revolute, Prismatic, Spherical, Distance}
use Rattle.loader.specs.declared.body.LinkBody.{LinkBody}
use Rattle.loader.specs.declared.joint.LinkJoint.{LinkJoint}
use Rattle.loader.specs.Linkage.{joint_of}

-- each joint's bodies are bodies of the linkage
pub record Tied (bodies : List LinkBody) (joints : List LinkJoint) : Type 0 where
  pub first : (j : ℕ) → j < length joints → (get_or joints j (joint_of [])).body1 < length bodies
  pub second : (j : ℕ) → j < length joints → (get_or joints j (joint_of [])).body2 < length bodies

abbrev pub EachInReach : List LinkJoint → Type 0
EachInReach joints = (j : ℕ) → j < length joints → EachAngleLimit InReach (get_or joints j (joint_of [])).joint

-- which holds in one way at most: proofs, but a ghost field cites the last, and it can cite specs alone

limit_prop : (l : Option AngleLimit) → IsProp (IfSome l InReach)
limit_prop None = Unit-prop
limit_prop (Some l) = ×_prop (T_prop _) (T_prop _)

joint_prop : (j : Joint) → IsProp (EachAngleLimit InReach j)
joint_prop (Fixed j) = Unit-prop
joint_prop (Revolute j) = limit_prop j.angle_limit
joint_prop (Prismatic j) = Unit-prop
joint_prop (Spherical j) = ×_prop (limit_prop j.swing_limit) (limit_prop j.twist_limit)
joint_prop (Distance j) = Unit-prop

pub each_in_reach_prop : (joints : List LinkJoint) → IsProp (EachInReach joints)
each_in_reach_prop joints = λ f g. λ z j h. joint_prop (get_or joints j (joint_of [])).joint (f j h) (g j h) z
