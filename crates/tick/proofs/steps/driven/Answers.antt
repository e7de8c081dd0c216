use mathlib.Core.Path.{◌≡◌, refl}
use mathlib.Core.Bool.{false}
use Rattle.joints.specs.declared.Joint.{Joint}
use Rattle.joints.specs.declared.Joint.TheVariants.{Fixed, Revolute, Prismatic, Spherical, Distance}
use Rattle.joints.specs.declared.revolute.RevoluteJoint.{RevoluteJoint}
use Rattle.joints.specs.declared.prismatic.PrismaticJoint.{PrismaticJoint}
use Rattle.tick.specs.Work.{driven}
use Rattle.tick.proofs.steps.driven.Goals as goal

not_driven : (j : Joint) → ((x : RevoluteJoint) → j ≡ Revolute x → ⊥) → ((x : PrismaticJoint) → j ≡ Prismatic x → ⊥) → false ≡ driven j
unfolding driven
not_driven (Fixed j) r p = refl
not_driven (Revolute j) r p = absurd (r j refl)
not_driven (Prismatic j) r p = absurd (p j refl)
not_driven (Spherical j) r p = refl
not_driven (Distance j) r p = refl

pub returns-in-Revolute : goal.returns-in-Revolute
unfolding driven
returns-in-Revolute c = rw c.in-Revolute.is

pub returns-in-Prismatic : goal.returns-in-Prismatic
unfolding driven
returns-in-Prismatic c = rw c.in-Prismatic.is

pub returns-in_default : goal.returns-in_default
returns-in_default c = not_driven _ c.in_default.not-Revolute c.in_default.not-Prismatic
