-- What a joint's steps read of its frames where the bodies are, in the Rust's form. Definitions only.
use Rattle.vector.specs.Vector.{sub_of}
use Rattle.vector.specs.Rotation.{product_of, inverse_of, turn_of}
use Rattle.vector.specs.Matrix.{of_quat, matrix_times}
use Rattle.vector.specs.declared.Vec3.{Vec3}
use Rattle.vector.specs.declared.Quat.{Quat}
use Rattle.joints.specs.declared.JointFrame.{JointFrame}
use Rattle.solver_body.specs.declared.RigidBody.{RigidBody}

-- the frame f of the body b in the world
abbrev pub orientation : RigidBody → JointFrame → Quat
orientation b f = product_of b.rotation f.basis

-- between two frames
abbrev pub offset : RigidBody → RigidBody → JointFrame → JointFrame → Quat
offset b₁ b₂ f₁ f₂ = product_of (orientation b₁ f₁) (inverse_of (orientation b₂ f₂))

-- the axis a of a frame
abbrev pub axis_in : RigidBody → JointFrame → Vec3 → Vec3
axis_in b f a = turn_of (orientation b f) a

-- a ball's arms and axes are turned by the matrix of the rotation
abbrev pub matrix_arm : RigidBody → Vec3 → Vec3
matrix_arm b anchor = matrix_times (of_quat b.rotation) (sub_of anchor b.center_of_mass)

abbrev pub matrix_axis : RigidBody → JointFrame → Vec3 → Vec3
matrix_axis b f a = matrix_times (of_quat b.rotation) (turn_of f.basis a)
