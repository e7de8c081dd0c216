-- Vectors, rotations and symmetric tensors as numbers of a list: x, y, z, w, and xx, xy, xz, yy, yz, zz.
use Rattle.std.specs.Prelude.{ℕ, ◌+◌, List, [], ◌∷◌, get_or, Float}
use Rattle.std.specs.Float.{nan}
use Rattle.vector.specs.declared.Vec3.{Vec3}
use Rattle.vector.specs.declared.Quat.{Quat}
use Rattle.vector.specs.declared.SymmetricTensor.{SymmetricTensor}

abbrev pub numbers3 : Vec3 → List Float
numbers3 v = v.x ∷ v.y ∷ v.z ∷ []

abbrev pub numbers4 : Quat → List Float
numbers4 q = q.x ∷ q.y ∷ q.z ∷ q.w ∷ []

abbrev pub numbers6 : SymmetricTensor → List Float
numbers6 t = t.xx ∷ t.xy ∷ t.xz ∷ t.yy ∷ t.yz ∷ t.zz ∷ []

-- past the end there is no number
abbrev pub number_in : List Float → ℕ → Float
number_in s k = get_or s k nan

abbrev pub vec3_in : List Float → ℕ → Vec3
vec3_in s k = record { x = number_in s k; y = number_in s (k + 1); z = number_in s (k + 2) }

abbrev pub quat_in : List Float → ℕ → Quat
quat_in s k = record { x = number_in s k; y = number_in s (k + 1); z = number_in s (k + 2); w = number_in s (k + 3) }
