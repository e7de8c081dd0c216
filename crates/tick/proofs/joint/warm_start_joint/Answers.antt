use Rattle.xpbd_joints.specs.Steps.{steps_of, warmed}
use Rattle.xpbd_joints.specs.Solved.{prismatic_prepared}
use Rattle.tick.specs.Parts.{joint_warmed}
use Rattle.tick.proofs.joint.warm_start_joint.Goals as goal

pub returns-in-Fixed : goal.returns-in-Fixed
unfolding joint_warmed steps_of warmed prismatic_prepared
returns-in-Fixed c = simp c.in-Fixed.is

pub returns-in-Revolute : goal.returns-in-Revolute
unfolding joint_warmed steps_of warmed prismatic_prepared
returns-in-Revolute c = simp (c.in-Revolute.is, c.div.ensures, c.warm_start_motors.ensures)

pub returns-in-Prismatic : goal.returns-in-Prismatic
unfolding joint_warmed steps_of warmed prismatic_prepared
returns-in-Prismatic c = simp (c.in-Prismatic.is, c.warm_start_motors-in-Prismatic.ensures)

pub returns-in-Spherical : goal.returns-in-Spherical
unfolding joint_warmed steps_of warmed prismatic_prepared
returns-in-Spherical c = simp c.in-Spherical.is

pub returns-in-Distance : goal.returns-in-Distance
unfolding joint_warmed steps_of warmed prismatic_prepared
returns-in-Distance c = simp c.in-Distance.is
