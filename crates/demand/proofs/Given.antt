-- What a card that no check refuses gives a joint's solve: a finite time, finite inverse masses, and compliances that are f32s and not below zero.
use Prim.Native.Nat.{ℕ, zero, suc, ◌+◌, ◌*◌, ◌<◌}
use native.Mathlib.Nat.{lt_of_lt_of_le}
use native.Mathlib.Omega.{arith}
use mathlib.Core.Path.{◌≡◌}
use mathlib.Core.Bool.{Bool, true, false}
use mathlib.Core.List.{List, [], ◌∷◌, ◌++◌, map}
use lib.ListN.{length, get_or, take, drop, length-map, get_or-map}
use lib.Dec.{T}
use lib.Ieee.{Float, binary32, of_bits, of_fields, fits, le}
use lib.Ieee.Bits.{of_bits-fits}
use Rattle.scalar.specs.Arith.{f32, f0}
use Rattle.vector.specs.declared.Quat.{Quat}
use Rattle.joints.specs.declared.Joint.{Joint}
use Rattle.joints.specs.declared.Joint.TheVariants.{Fixed, Revolute, Prismatic, Spherical, Distance}
use Rattle.solver_body.specs.Body.{dummy_inertia, unlocked, effective_inv_mass}
use Rattle.solver_body.specs.declared.RigidBody.{RigidBody}
use Rattle.solver_body.specs.declared.SolverBodyInertia.{SolverBodyInertia}
use Rattle.laws.proofs.Place.{Held}
use Rattle.laws.proofs.Step.{step_held}
use Rattle.xpbd_joints.specs.Steps.{steps_of}
use Rattle.stages.proofs.Choice.{either}
use Rattle.stages.proofs.Vec.{Held3}
use Rattle.std.specs.List.{AllByRecursion}
use Rattle.stages.proofs.Sound.{SettingOk, StepOk}
use Rattle.card.specs.Format.{Cell, width_of, numbers_at, records_at}
use Rattle.card.specs.Card.{at, flag, body, joint, edition_at, Card, card_of}
use Rattle.card.specs.Checks.{check_of}
use Rattle.card.specs.Accepted.{Real, Ranged, AcceptedCard}
use Rattle.card.proofs.Cut.{records_length, record_at}
use Rattle.card.proofs.Cells.{Row, flat}
use Rattle.card.proofs.Editions.{joint_rows, JointOf, joint_of_lem, joint_numbers_lem}
use Rattle.card.proofs.Accepted.{accepted, edition}
use Rattle.loader.specs.Linkage.{Linkage, angular_motor_in, linear_motor_in, fixed_in, revolute_in, prismatic_in, spherical_in, distance_in, kind_in, body_in, body_of, joint_of, linkage_of}
use Rattle.loader.specs.declared.body.LinkBody.{LinkBody}
use Rattle.state.specs.State.{body_at}
use Rattle.tick.specs.Body.{turned_body}
use Rattle.tick.specs.Tick as tick
use Rattle.tick.proofs.Turning.{body_turned}

-- ---- inverse masses

zero_held : Held binary32 f0
unfolding of_bits of_fields
zero_held = (of_bits-fits binary32 0, tt)

unlocked_held : (v : Bool) (m : Float) → Held binary32 m → Held binary32 (unlocked v m)
unfolding unlocked
unlocked_held true m h = zero_held
unlocked_held false m h = h

abbrev MassHeld : SolverBodyInertia → Type 0
MassHeld i = Held binary32 i.inv_mass

masses_held : (i : SolverBodyInertia) → MassHeld i → Held3 (effective_inv_mass i)
unfolding effective_inv_mass
masses_held i h = (
  unlocked_held i.translation_x_locked i.inv_mass h,
  unlocked_held i.translation_y_locked i.inv_mass h,
  unlocked_held i.translation_z_locked i.inv_mass h,
)

-- an anchored body's is zero
body_held : (l : List ℕ) (p : ℕ) → Ranged body (numbers_at body l p) → MassHeld (body_of (numbers_at body l p)).inertia
unfolding body_in numbers_at
body_held l p r = either MassHeld (flag 0 (numbers_at body l p)) dummy_inertia _ zero_held (r 22).held

-- turning leaves it as it is
turned_held : (q : Quat) (b : LinkBody) → MassHeld b.inertia → MassHeld (turned_body q b).inertia
unfolding turned_body
turned_held q b m = either MassHeld b.anchored b.inertia _ m m

-- ---- compliances and caps

abbrev Soft : Float → Type 0
Soft α = T (fits binary32 α) × T (le f0 α)

abbrev Compliant : Joint → Type 0
Compliant (Fixed j) = Soft j.point_compliance × Soft j.angle_compliance
Compliant (Revolute j) =
    Soft j.point_compliance × Soft j.align_compliance × Soft j.limit_compliance × T (fits binary32 j.motor.max_torque)
Compliant (Prismatic j) = Soft j.angle_compliance × Soft j.align_compliance × T (fits binary32 j.motor.max_force)
Compliant (Spherical j) = Soft j.point_compliance × Soft j.swing_compliance × Soft j.twist_compliance
Compliant (Distance j) = Soft j.compliance

steps_of_ok : (j : Joint) → Compliant j → (b₁ b₂ : RigidBody) → AllByRecursion StepOk (steps_of j b₁ b₂)
unfolding steps_of
steps_of_ok (Fixed j) h b₁ b₂ = (h.1, (h.0, tt))
steps_of_ok (Revolute j) h b₁ b₂ = (h.1, (h.3, (h.2, (h.0, tt))))
steps_of_ok (Prismatic j) h b₁ b₂ = (h.0, (h.2, (h.1, tt)))
steps_of_ok (Spherical j) h b₁ b₂ = (h.0, (h.1, (h.2, tt)))
steps_of_ok (Distance j) h b₁ b₂ = (h, tt)

soft : {x : Float} → Real f0 x → Soft x
soft r = (r.held.0, r.above)

-- the floats' cells are known, so each float computes to its bits
module _ (numbers zeros : ℕ) (more : List Row) (l : List ℕ) (p kind body1 body2 first second motor rest : ℕ) where
  abbrev ns : List ℕ
  ns = kind ∷ body1 ∷ body2 ∷ first ∷ second ∷ motor ∷ rest ∷ numbers_at (flat (joint_rows ++ more)) l (p + 24)

  abbrev fs : List Float
  fs = map f32 (take 30 (drop 7 ns))

  by_kind : Ranged (joint numbers zeros (flat more)) ns → (k : ℕ)
      → Compliant (get_or (Fixed (fixed_in fs) ∷ Revolute (revolute_in ns fs) ∷ Prismatic (prismatic_in ns fs) ∷ Spherical (spherical_in ns fs) ∷ []) k (Distance (distance_in fs)))
  unfolding fixed_in revolute_in prismatic_in spherical_in distance_in angular_motor_in linear_motor_in numbers_at
  by_kind r zero = (soft (r 24), soft (r 25))
  by_kind r (suc zero) = (soft (r 24), soft (r 25), soft (r 26), (r 34).held.0)
  by_kind r (suc (suc zero)) = (soft (r 24), soft (r 25), (r 34).held.0)
  by_kind r (suc (suc (suc zero))) = (soft (r 24), soft (r 25), soft (r 26))
  by_kind r (suc (suc (suc (suc k)))) = soft (r 24)

joint_compliant : (cs : List Cell) → JointOf cs → (l : List ℕ) (p : ℕ) → Ranged cs (numbers_at cs l p) → Compliant (joint_of (numbers_at cs l p)).joint
unfolding kind_in
joint_compliant cs J l p =
    joint_numbers_lem l p cs J (λ ns. Ranged cs ns → Compliant (joint_of ns).joint)
    (λ kind body1 body2 first second motor rest r. by_kind J.numbers J.zeros J.more l p kind body1 body2 first second motor rest (rw J.is at r) kind)

-- ---- the card

-- what each record has, wherever it begins, each of a row has
each_has : (P : List ℕ → Type 0) (cs : List Cell) (l : List ℕ) → ((p : ℕ) → Ranged cs (numbers_at cs l p) → P (numbers_at cs l p))
    → (p n i : ℕ) → i < length (records_at cs l p n) → Ranged cs (get_or (records_at cs l p n) i []) → P (get_or (records_at cs l p n) i [])
each_has P cs l f p n i h r =
    let within : i < n = rw (records_length cs l p n) at h in
    let here = record_at cs l p n i within in
    rw here (f (p + i * width_of cs) (rw here at r))

module _ (card : List ℕ) (z : check_of card ≡ 0) (s : List Float) where
  abbrev c : Card
  c = card_of card

  abbrev K : Linkage
  K = linkage_of c

  -- as the tick from s has it
  abbrev L : Linkage
  L = tick.turned_linkage K s

  abbrev has : AcceptedCard (edition_at card) c
  has = (accepted card z).has

  time_held : Held binary32 L.dt
  unfolding tick.turned_linkage linkage_of of_bits of_fields
  time_held = step_held binary32 (at 3 c.header) (lt_of_lt_of_le (omega arith) has.least_rate)

  card_mass : (i : ℕ) → i < length c.bodies → MassHeld (tick.body K i).inertia
  unfolding linkage_of card_of
  card_mass i h = rw (get_or-map body_of c.bodies i []) (each_has (λ ns. MassHeld (body_of ns).inertia) body card (body_held card) _ _ i h (has.body i h))

  bodies_counted : length K.bodies ≡ length c.bodies
  unfolding linkage_of
  bodies_counted = length-map c.bodies body_of

  mass_held : (i : ℕ) → i < length c.bodies → MassHeld (tick.body L i).inertia
  mass_held i h = rw (body_turned K s i (rw bodies_counted h)) (turned_held (body_at s i).rotation (tick.body K i) (card_mass i h))

  joint_is : (j : ℕ) → tick.joint L j ≡ joint_of (get_or c.joints j [])
  unfolding tick.turned_linkage linkage_of
  joint_is j = get_or-map joint_of c.joints j []

  module _ (j : ℕ) (h : j < length c.joints) where
    pub setting_ok : SettingOk (tick.setting L true j)
    setting_ok =
        let k = tick.joint L j in
        let n = has.joint j h in
        record {
          dt_held = time_held;
          m₁ = masses_held _ (mass_held k.body1 (rw (joint_is j) n.body1));
          m₂ = masses_held _ (mass_held k.body2 (rw (joint_is j) n.body2));
        }

    pub steps_ok : AllByRecursion StepOk (tick.steps L s j)
    unfolding tick.steps card_of
    steps_ok =
        let J : JointOf (edition_at card).joint = rw (edition card z).1 at (joint_of_lem (edition card z).0) in
        let compliant = joint_compliant (edition_at card).joint J card in
        steps_of_ok (tick.joint L j).joint
        (rw (joint_is j) (each_has (λ ns. Compliant (joint_of ns).joint) (edition_at card).joint card compliant _ _ j h (has.joint j h).ranged))
        _ _
