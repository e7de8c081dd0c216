-- A body and a joint as the code reads them, and a joint without a motor, which warms nothing.
use Rattle.std.specs.Prelude.{if◌then◌else◌}
use Prim.Native.Nat.{ℕ, ◌<◌}
use mathlib.Core.Path.{◌≡◌, refl, sym, ap, ◌∙◌}
use mathlib.Core.Bool.{Bool, true, false}
use mathlib.Core.List.{List, []}
use lib.ListN.{length, get_or, set}
use lib.Seq.{set-get_or}
use lib.Ieee.{Float}
use Rattle.joints.specs.declared.Joint.{Joint}
use Rattle.joints.specs.declared.Joint.TheVariants.{Fixed, Revolute, Prismatic, Spherical, Distance}
use Rattle.solver_body.specs.Body.{dummy_body}
use Rattle.solver_body.specs.declared.RigidBody.{RigidBody}
use Rattle.solver_body.specs.declared.SolverBody.{SolverBody}
use Rattle.solver_body.specs.declared.SolverBodyInertia.{SolverBodyInertia}
use Rattle.solver_body.specs.declared.BodyPair.{BodyPair}
use Rattle.xpbd_joints.specs.Revolute.{revolute_warmed}
use Rattle.xpbd_joints.specs.Prismatic.{prismatic_warmed}
use Rattle.xpbd_joints.specs.Stage.{Setting}
use Rattle.xpbd_joints.specs.Steps.{no_totals, steps_of, run, warmed}
use Rattle.xpbd_joints.specs.declared.JointTotals.{JointTotals}
use Rattle.std.proofs.lemmas.List.{get_or_default}
use Rattle.loader.specs.Linkage.{Linkage, joint_of}
use Rattle.loader.specs.Parts.{linkage_in}
use Rattle.loader.specs.declared.joint.LinkJoint.{LinkJoint}
use Rattle.solver_body.specs.declared.BodyState.{BodyState}
use Rattle.state.specs.State.{body_at, totals_at}
use Rattle.tick.specs.Body.{integrated, finished_body}
use Rattle.tick.proofs.Lengths.{pre_solve_length, solved_length}
use Rattle.tick.specs.Tick.{body, joint, put, pair, put_pair, setting, integrated_at, rigid, skipped, steps, warm_start_next, pre_solve_of, solved, new_body}
use Rattle.tick.specs.Parts.{joint_warmed, joint_solved}
use Rattle.tick.specs.declared.joint.JointResult.{JointResult}
use Rattle.tick.specs.declared.linked.Tick.{Tick}
use Rattle.tick.specs.Work.{driven, result_at}

-- ---- a body

module _ (K : Linkage) (i : ℕ) where
  pub integrated_is : (l : List SolverBody) → i < length l → {j : SolverBodyInertia} → j ≡ (body K i).inertia → (d : SolverBody) {b : SolverBody}
      → b ≡ integrated (get_or l i d) j K.gravity K.dt → b ≡ integrated_at K i (get_or l i dummy_body)
  integrated_is l k ej d e = e ∙ rw (ej, get_or_default l i d dummy_body k)

  pub finished_is : (s : List Float) → i < length K.bodies → {pre bodies : List SolverBody} → pre ≡ pre_solve_of K s → bodies ≡ (solved K s).bodies → (d d' : SolverBody) {b : BodyState}
      → b ≡ (if (body K i).anchored then body_at s i else finished_body (rigid K s i) (get_or pre i d) (get_or bodies i d') K.dt) → b ≡ new_body K s i
  unfolding new_body
  finished_is s h {pre} {bodies} ep eb d d' e =
      let room : i < length pre = rw (ep, pre_solve_length K s) h in
      let room' : i < length bodies = rw (eb, solved_length K s) h in
      e ∙ rw (get_or_default pre i d dummy_body room, get_or_default bodies i d' dummy_body room', ep, eb)

-- ---- a joint

module _ (t : Tick) (j : ℕ) (h : j < length t.linkage.joints.now) (d : LinkJoint) where
  abbrev K : Linkage
  K = linkage_in t.linkage

  joint_is : get_or K.joints j d ≡ joint K j
  joint_is = get_or_default K.joints j d (joint_of []) h

  pub undriven : {b : Bool} → b ≡ driven (get_or K.joints j d).joint → b ≡ false → driven (joint K j).joint ≡ false
  undriven e f = rw (joint_is, f) at (sym e)

  module _ {t₁ t₂ : Tick} {f g : ℕ} (e₁ : (t₁ ≡ t) × (f ≡ (joint K j).body1)) (e₂ : (t₂ ≡ t) × (g ≡ (joint K j).body2)) {r₁ r₂ : RigidBody} {i₁ i₂ : SolverBodyInertia}
      (er₁ : r₁ ≡ rigid (linkage_in t₁.linkage) t₁.state.now f) (er₂ : r₂ ≡ rigid (linkage_in t₂.linkage) t₂.state.now g)
      (ei₁ : i₁ ≡ (body (linkage_in t₁.linkage) f).inertia) (ei₂ : i₂ ≡ (body (linkage_in t₂.linkage) g).inertia) (found : BodyPair) where
    pub warm_is : {last : JointTotals} → last ≡ totals_at (length K.bodies) t.state.now j → {p : BodyPair} → p ≡ joint_warmed (get_or K.joints j d).joint r₁ r₂ last found i₁ i₂ K.warm_coefficient K.dt
        → p ≡ warmed (setting K true j) K.warm_coefficient (totals_at (length K.bodies) t.state.now j) (steps K t.state.now j) found
    unfolding joint_warmed steps
    warm_is el e = e ∙ rw (er₁, er₂, ei₁, ei₂, el, e₁.0, e₁.1, e₂.0, e₂.1, joint_is)

    pub solve_is : {r : JointResult} → r ≡ joint_solved (get_or K.joints j d).joint r₁ r₂ found i₁ i₂ K.dt
        → r ≡ result_at K t.state.now j (run (setting K true j) (steps K t.state.now j) (record { bodies = found; totals = no_totals }))
    unfolding joint_solved steps
    solve_is e = e ∙ rw (er₁, er₂, ei₁, ei₂, e₁.0, e₁.1, e₂.0, e₂.1, joint_is)

-- both its bodies put
pub both_put : (t : Tick) (j : ℕ) {t₁ t₂ : Tick} {f g : ℕ} → (let k = joint (linkage_in t.linkage) j in ((t₁ ≡ t) × (f ≡ k.body1)) × ((t₂ ≡ t) × (g ≡ k.body2))) → (p : BodyPair) (l : List SolverBody) {m n : List SolverBody}
    → m ≡ put (linkage_in t₁.linkage) f p.body1 l → n ≡ put (linkage_in t₂.linkage) g p.body2 m → n ≡ put_pair (linkage_in t.linkage) j p l
both_put t j e p l em en = en ∙ rw (em, e.0.0, e.0.1, e.1.0, e.1.1)

unwarmed : (joint : Joint) → driven joint ≡ false → (S : Setting) (c : Float) (last : JointTotals) (r₁ r₂ : RigidBody) (b : BodyPair) → warmed S c last (steps_of joint r₁ r₂) b ≡ b
unfolding driven warmed steps_of revolute_warmed prismatic_warmed
unwarmed (Fixed j) off S c last r₁ r₂ b = refl
unwarmed (Revolute j) off S c last r₁ r₂ b = rw off
unwarmed (Prismatic j) off S c last r₁ r₂ b = rw off
unwarmed (Spherical j) off S c last r₁ r₂ b = refl
unwarmed (Distance j) off S c last r₁ r₂ b = refl

put_same : (a : Bool) (bodies : List SolverBody) (i : ℕ) → (if a then bodies else set bodies i (get_or bodies i dummy_body)) ≡ bodies
put_same true bodies i = refl
put_same false bodies i = set-get_or bodies i dummy_body

module _ (K : Linkage) (s : List Float) (j : ℕ) where
  -- what a joint finds, put back
  put_back : (l : List SolverBody) → put_pair K j (pair K j l) l ≡ l
  put_back l =
      let f = (joint K j).body1 in
      let g = (joint K j).body2 in
      ap (λ m. put K g (get_or l g dummy_body) m) (put_same (body K f).anchored l f) ∙ put_same (body K g).anchored l g

  pub warm_skip : skipped K s j ≡ false → driven (joint K j).joint ≡ false → (l : List SolverBody) → l ≡ warm_start_next K s j l
  unfolding steps
  warm_skip whole off l = rw whole (sym (ap (λ p. put_pair K j p l) (unwarmed (joint K j).joint off _ _ _ _ _ (pair K j l)) ∙ put_back l))
