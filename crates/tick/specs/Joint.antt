-- The numbers that refusal 13 looks at after a joint's solve, and whether the joint breaks. Definitions only.
use Rattle.std.specs.Prelude.{Bool, not, ◌&&◌, List, ◌++◌, Float}
use Rattle.std.specs.Float.Ieee.{lt, eq}
use Rattle.scalar.specs.Arith.{◌⊗◌, ◌⊘◌, f0}
use Rattle.vector.specs.Vector.{length_of, any_orthonormal}
use Rattle.vector.specs.declared.Vec3.{Vec3}
use Rattle.joints.specs.declared.JointFrame.{JointFrame}
use Rattle.joints.specs.declared.Joint.{Joint}
use Rattle.joints.specs.declared.Joint.TheVariants.{Fixed, Revolute, Prismatic, Spherical, Distance}
use Rattle.solver_body.specs.declared.RigidBody.{RigidBody}
use Rattle.solver_body.specs.declared.SolverBody.{SolverBody}
use Rattle.solver_body.specs.declared.SolverBodyInertia.{SolverBodyInertia}
use Rattle.xpbd.specs.Positional.{anchor_arm, center_difference_of}
use Rattle.xpbd_joints.specs.Prepared.{offset, axis_in, matrix_arm, matrix_axis}
use Rattle.xpbd_joints.specs.Steps.{Run}
use Rattle.numbers.specs.Numbers.{numbers3, numbers4, numbers6}
use Rattle.state.specs.State.{totals_numbers}

-- two arms and the difference of the centres
abbrev pub arm_numbers : Vec3 → Vec3 → Vec3 → List Float
arm_numbers r₁ r₂ d = numbers3 r₁ ++ numbers3 r₂ ++ numbers3 d

abbrev pub arms : RigidBody → RigidBody → Vec3 → Vec3 → List Float
arms b₁ b₂ anchor₁ anchor₂ = arm_numbers (anchor_arm b₁ anchor₁) (anchor_arm b₂ anchor₂) (center_difference_of b₁ b₂)

-- the axis a of both bodies, and the axis c
abbrev pub axis_numbers : (RigidBody → JointFrame → Vec3 → Vec3) → RigidBody → RigidBody → JointFrame → JointFrame → Vec3 → Vec3 → List Float
axis_numbers turn b₁ b₂ f₁ f₂ a c = numbers3 (turn b₁ f₁ a) ++ numbers3 (turn b₂ f₂ a) ++ numbers3 (turn b₁ f₁ c) ++ numbers3 (turn b₂ f₂ c)

-- what a joint prepared
unfoldable pub prepared_numbers : Joint → RigidBody → RigidBody → List Float
prepared_numbers (Fixed j) b₁ b₂ = arms b₁ b₂ j.frame1.anchor j.frame2.anchor ++ numbers4 (offset b₁ b₂ j.frame1 j.frame2)
prepared_numbers (Revolute j) b₁ b₂ =
    arms b₁ b₂ j.frame1.anchor j.frame2.anchor ++ axis_numbers axis_in b₁ b₂ j.frame1 j.frame2 j.hinge_axis (any_orthonormal j.hinge_axis)
prepared_numbers (Prismatic j) b₁ b₂ =
    arms b₁ b₂ j.frame1.anchor j.frame2.anchor ++ numbers3 (axis_in b₁ j.frame1 j.slider_axis) ++ numbers4 (offset b₁ b₂ j.frame1 j.frame2)
prepared_numbers (Spherical j) b₁ b₂ =
    arm_numbers (matrix_arm b₁ j.frame1.anchor) (matrix_arm b₂ j.frame2.anchor) (center_difference_of b₁ b₂)
    ++ axis_numbers matrix_axis b₁ b₂ j.frame1 j.frame2 (any_orthonormal j.twist_axis) j.twist_axis
prepared_numbers (Distance j) b₁ b₂ = arms b₁ b₂ j.anchor1 j.anchor2

-- velocities and deltas
abbrev pub solver_numbers : SolverBody → List Float
solver_numbers b = numbers3 b.linear_velocity ++ numbers3 b.angular_velocity ++ numbers3 b.delta_position ++ numbers4 b.delta_rotation

-- of a joint between bodies that began at b₁ and b₂: what it prepared, its totals, both bodies, and their inverse inertias
abbrev pub looked_at : Joint → RigidBody → RigidBody → SolverBodyInertia → SolverBodyInertia → Run → List Float
looked_at j b₁ b₂ i₁ i₂ r =
    prepared_numbers j b₁ b₂ ++ totals_numbers r.totals ++ solver_numbers r.bodies.body1 ++ solver_numbers r.bodies.body2
    ++ numbers6 i₁.inv_angular_inertia
    ++ numbers6 i₂.inv_angular_inertia

-- document 02, point 11: the length of a joint's first total, over h², exceeds its load; a load of zero never breaks
unfoldable pub overloaded : Float → Vec3 → Float → Bool
overloaded load first h = not (eq load f0) && lt load (length_of first ⊘ (h ⊗ h))
