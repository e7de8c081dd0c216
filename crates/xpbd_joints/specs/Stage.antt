-- A compliance stage: one call of the multiplier's update (Macklin 2016; Müller 2020) within a joint's solve, and the impulse made from its answer. Where a stage returns early, and the sign of an angular impulse, are the Rust's own. Definitions only.
use Rattle.std.specs.Prelude.{Bool, true, false, not, Option, None, Some, Float}
use Rattle.std.specs.Float.Ieee.{neg, eq, le}
use Rattle.scalar.specs.Arith.{◌⊕◌, f0, epsilon, pi}
use Rattle.vector.specs.Vector.{origin, neg_of, scale_of, div_of, cross_of, length_of, length_squared_of, max_element}
use Rattle.vector.specs.Rotation.{turn_of}
use Rattle.vector.specs.declared.Vec3.{Vec3}
use Rattle.vector.specs.declared.Quat.{Quat}
use Rattle.vector.specs.declared.SymmetricTensor.{SymmetricTensor}
use Rattle.joints.specs.Limit.{distance_correction, angle_correction}
use Rattle.joints.specs.declared.DistanceLimit.{DistanceLimit}
use Rattle.joints.specs.declared.AngleLimit.{AngleLimit}
use Rattle.joints.specs.declared.AngleCorrection.{AngleCorrection}
use Rattle.joints.specs.declared.AngleCorrection.TheVariants as correction
use Rattle.solver_body.specs.Body.{effective_inv_mass}
use Rattle.solver_body.specs.declared.SolverBody.{SolverBody}
use Rattle.solver_body.specs.declared.SolverBodyInertia.{SolverBodyInertia}
use Rattle.solver_body.specs.declared.BodyPair.{BodyPair}
use Rattle.xpbd.specs.Multiplier.{lagrange_update}
use Rattle.xpbd.specs.Positional.{generalized_inverse_mass, impulse_applied, separation_of}
use Rattle.xpbd.specs.Angular.{angular_inverse_mass, angular_impulse_applied}
use Rattle.xpbd.specs.FixedAngle.{rotation_difference_of}
use Rattle.xpbd_joints.specs.Prismatic.{slide_correction}
use Rattle.xpbd_joints.specs.Spherical.{swing_correction, twist_correction}

-- A stage's name in the card's list of compliances, with the prepared and card numbers that it reads: two arms and the difference of the centres; the difference of the rotations; axes; a limit.
pub data Reads : Type 0 where
  point : Vec3 → Vec3 → Vec3 → Reads
  angle : Quat → Reads
  hinge_align : Vec3 → Vec3 → Reads
  hinge_limit : Option AngleLimit → Vec3 → Vec3 → Vec3 → Reads
  slide_align : Option DistanceLimit → Vec3 → Vec3 → Vec3 → Vec3 → Reads
  swing : Option AngleLimit → Vec3 → Vec3 → Reads
  twist : Option AngleLimit → Vec3 → Vec3 → Vec3 → Vec3 → Reads
  tether : DistanceLimit → Vec3 → Vec3 → Vec3 → Reads

-- each point, the slide's align and the tether
abbrev pub positional : Reads → Bool
positional (point a b d) = true
positional (angle q) = false
positional (hinge_align a b) = false
positional (hinge_limit l a b c) = false
positional (slide_align l a b d c) = true
positional (swing l a b) = false
positional (twist l a b c d) = false
positional (tether l a b d) = true

-- of a body: its displacement, its turn, its inverse mass along each axis and its inverse inertia
pub record Placed : Type 0 where
  pub x : Vec3
  pub q : Quat
  pub m : Vec3
  pub I : SymmetricTensor

-- all that a stage reads but its compliance
pub record Entry : Type 0 where
  pub reads : Reads
  pub dt : Float
  pub b₁ : Placed
  pub b₂ : Placed

-- What an entry asks for. `called`: the stage doesn't return before the update. `still`: where it does, it does nothing; else it adds zero to its total.
-- `error`, `w₁`, `w₂`: what the update gets. `n`: the impulse's direction. `r₁`, `r₂`: the arms of a position stage.
pub record Correction : Type 0 where
  pub called : Bool
  pub still : Bool
  pub error : Float
  pub w₁ : Float
  pub w₂ : Float
  pub n : Vec3
  pub r₁ : Vec3
  pub r₂ : Vec3

-- none where there is no limit
abbrev pub limited : Option AngleLimit → (AngleLimit → AngleCorrection) → AngleCorrection
limited None asked = correction.None
limited (Some l) asked = asked l

module _ (e : Entry) where
  abbrev pub turned₁ : Vec3 → Vec3
  turned₁ v = turn_of e.b₁.q v

  abbrev pub turned₂ : Vec3 → Vec3
  turned₂ v = turn_of e.b₂.q v

  -- from the first anchor to the second
  abbrev pub separation : Vec3 → Vec3 → Vec3 → Vec3
  separation a b d = separation_of e.b₁.x e.b₂.x (turned₁ a) (turned₂ b) d

  -- Müller 2020, (2) to (9): along n, by the error c, at the arms a and b
  abbrev pub position_asked : Bool → Vec3 → Vec3 → Vec3 → Float → Correction
  position_asked called a b n c =
      let r₁ = turned₁ a in
      let r₂ = turned₂ b in
      let w₁ = generalized_inverse_mass (max_element e.b₁.m) e.b₁.I r₁ n in
      let w₂ = generalized_inverse_mass (max_element e.b₂.m) e.b₂.I r₂ n in
      record { called = called; still = true; error = c; w₁ = w₁; w₂ = w₂; n = n; r₁ = r₁; r₂ = r₂ }

  -- (11) to (16): about d, whose length is the error
  abbrev pub rotation_asked : Vec3 → Correction
  rotation_asked d =
      let n = div_of d (length_of d) in
      let w₁ = angular_inverse_mass e.b₁.I n in
      let w₂ = angular_inverse_mass e.b₂.I n in
      record { called = not (le (length_of d) epsilon); still = false; error = length_of d; w₁ = w₁; w₂ = w₂; n = n; r₁ = origin; r₂ = origin }

  abbrev pub limit_asked : AngleCorrection → Correction
  limit_asked correction.None = record { called = false; still = true; error = f0; w₁ = f0; w₂ = f0; n = origin; r₁ = origin; r₂ = origin }
  limit_asked (correction.Some d) = rotation_asked d

  abbrev pub asked : Reads → Correction
  asked (point a b d) =
      let s = separation a b d in
      position_asked (not (eq (length_squared_of s) f0)) a b (div_of (neg_of s) (length_of s)) (length_of s)
  asked (angle q) = rotation_asked (rotation_difference_of q e.b₁.q e.b₂.q)
  -- (20)
  asked (hinge_align a₁ a₂) = rotation_asked (cross_of (turned₁ a₁) (turned₂ a₂))
  asked (hinge_limit o a₁ b₁ b₂) = limit_asked (limited o (λ l. angle_correction l (turned₁ a₁) (turned₁ b₁) (turned₂ b₂) pi))
  asked (slide_align o a b d axis) =
      let Δx = slide_correction o (separation a b d) (turned₁ axis) in
      position_asked (not (le (length_of Δx) epsilon)) a b (div_of Δx (length_of Δx)) (length_of Δx)
  asked (swing o a₁ a₂) = limit_asked (limited o (λ l. swing_correction l (turned₁ a₁) (turned₂ a₂)))
  asked (twist o a₁ a₂ b₁ b₂) = limit_asked (limited o (λ l. twist_correction l (turned₁ a₁) (turned₂ a₂) (turned₁ b₁) (turned₂ b₂) e.dt))
  asked (tether l a b d) =
      let c = distance_correction l (separation a b d) in
      position_asked (not (le c.magnitude epsilon)) a b c.direction c.magnitude

-- what stays through a joint's solve; without `motors` they don't push
pub record Setting : Type 0 where
  pub dt : Float
  pub motors : Bool
  pub inertia1 : SolverBodyInertia
  pub inertia2 : SolverBodyInertia

pub record Stage : Type 0 where
  pub reads : Reads
  pub setting : Setting
  pub bodies : BodyPair
  pub compliance : Float

abbrev pub placed : SolverBody → SolverBodyInertia → Placed
placed b i = record { x = b.delta_position; q = b.delta_rotation; m = effective_inv_mass i; I = i.inv_angular_inertia }

abbrev pub entry_of : Stage → Entry
entry_of s =
    let S = s.setting in
    record { reads = s.reads; dt = S.dt; b₁ = placed s.bodies.body1 S.inertia1; b₂ = placed s.bodies.body2 S.inertia2 }

unfoldable pub correction_of : Entry → Correction
correction_of e = asked e e.reads

-- (4), with no multiplier before it
unfoldable pub multiplier_at : Entry → Float → Float
multiplier_at e α = lagrange_update f0 (correction_of e).error (correction_of e).w₁ (correction_of e).w₂ α e.dt

-- c, w, the multiplier, and what the stage adds to its total
abbrev pub error_of : Stage → Float
error_of s = (correction_of (entry_of s)).error

abbrev pub weight_sum : Stage → Float
weight_sum s = (correction_of (entry_of s)).w₁ ⊕ (correction_of (entry_of s)).w₂

abbrev pub multiplier_of : Stage → Float
multiplier_of s = multiplier_at (entry_of s) s.compliance

unfoldable pub total_change : Stage → Vec3
total_change s = scale_of (correction_of (entry_of s)).n (multiplier_of s)

-- both bodies after it
abbrev pub applied_to : Bool → Stage → BodyPair
applied_to true s =
    impulse_applied s.bodies s.setting.inertia1 s.setting.inertia2 (total_change s) (correction_of (entry_of s)).r₁ (correction_of (entry_of s)).r₂
applied_to false s =
    angular_impulse_applied s.bodies s.setting.inertia1.inv_angular_inertia s.setting.inertia2.inv_angular_inertia
    (scale_of (correction_of (entry_of s)).n (neg (multiplier_of s)))

unfoldable pub after_of : Stage → BodyPair
after_of s = applied_to (positional s.reads) s
