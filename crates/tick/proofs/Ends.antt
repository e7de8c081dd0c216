-- The new state: its bodies and joints one by one, the joints' totals as the solve left them.
use Prim.Native.Nat.{ℕ, zero, suc, ◌+◌, ◌≤◌, ◌<◌}
use native.Mathlib.Omega.{arith}
use mathlib.Core.Path.{◌≡◌, refl, sym, ap, ◌∙◌}
use mathlib.Core.Bool.{Bool, true, false, ◌||◌}
use mathlib.Core.List.{List, [], ◌∷◌, map}
use lib.ListN.{length, get_or, take, drop, replicate, length-map, get_or-replicate}
use lib.Ieee.{Float, nan}
use Rattle.scalar.specs.Arith.{f0}
use Rattle.vector.specs.Vector.{origin}
use Rattle.solver_body.specs.declared.BodyState.{BodyState}
use Rattle.solver_body.specs.declared.SolverBody.{SolverBody}
use Rattle.xpbd_joints.specs.Steps.{no_totals}
use Rattle.xpbd_joints.specs.declared.JointTotals.{JointTotals}
use Rattle.numbers.specs.Lists.{each, after}
use Rattle.numbers.specs.Numbers.{vec3_in}
use Rattle.numbers.proofs.Rows.{each_is, each_length, each_at}
use Rattle.loader.specs.Linkage.{Linkage}
use Rattle.loader.specs.declared.joint.LinkJoint.{LinkJoint}
use Rattle.state.specs.State.{joint_numbers, state_length, totals_from, totals_at, mark_at, mark_of, start_joint, bad_numbers, bad_marks}
use Rattle.state.specs.declared.places.JointState.{JointState}
use Rattle.state.proofs.Found.{marks_good}
use Rattle.state.proofs.Rows.{totals_by_part, state_length_lem, totals_read, mark_read}
use Rattle.tick.specs.Joint.{overloaded}
use Rattle.tick.specs.Tick.{joint, skipped, pre_solve_of, solve_pass, solved_to, solved, new_body, breaks, new_joint, new_state, stopped}
use Rattle.tick.specs.Work.{solved_in}

-- ---- totals of zero

vec3_clear : (n at : ℕ) → at + 3 ≤ n → vec3_in (replicate n f0) at ≡ origin
vec3_clear n at h =
    rw (get_or-replicate n at f0 nan (omega arith), get_or-replicate n (at + 1) f0 nan (omega arith), get_or-replicate n (at + 2) f0 nan (omega arith))

map_same : {A B : Type 0} (b : B) (l : List A) (i : ℕ) → get_or (map (λ _. b) l) i b ≡ b
map_same b [] i = refl
map_same b (a ∷ l) zero = refl
map_same b (a ∷ l) (suc i) = map_same b l i

totals_clear : (bodies m n : ℕ) → n ≡ state_length bodies m → (js : List LinkJoint) → length js ≡ m → each (totals_at bodies (replicate n f0)) m ≡ map (λ j. no_totals) js
unfolding totals_from
totals_clear bodies m n e js ej =
    each_is (totals_at bodies (replicate n f0)) no_totals (map (λ j. no_totals) js) m (length-map js (λ j. no_totals) ∙ ej)
    (λ i k. cc (
      vec3_clear n (state_length bodies i) (omega (arith, e, k)),
      vec3_clear n (state_length bodies i + 3) (omega (arith, e, k)),
      vec3_clear n (state_length bodies i + 6) (omega (arith, e, k)),
      vec3_clear n (state_length bodies i + 9) (omega (arith, e, k)),
      map_same no_totals js i,
    ))

module _ (K : Linkage) (s : List Float) where
  -- where the solve begins
  pub solve_start : {w : List SolverBody} {t : List Float} (n : ℕ) → w ≡ pre_solve_of K s → t ≡ replicate n f0 → n ≡ state_length (length K.bodies) (length K.joints)
      → solved_in K w t ≡ solved_to K s 0
  unfolding solve_pass after
  solve_start n ew et e = rw (ew, et, totals_clear (length K.bodies) (length K.joints) n e K.joints refl)

  -- what the tick leaves of joint j, whose numbers are still those of the solve
  module _ (j : ℕ) (h : j < length K.joints) (t₀ t : List Float) (et : each (totals_at (length K.bodies) t₀) (length K.joints) ≡ (solved K s).totals)
      (kept : drop (state_length (length K.bodies) j) t ≡ drop (state_length (length K.bodies) j) t₀) where
    left_totals : totals_at (length K.bodies) t j ≡ (new_joint K s j).totals
    unfolding totals_from
    left_totals =
        let at = state_length (length K.bodies) j in
        let reads = totals_by_part joint_numbers (omega arith) in
        reads t at ∙ ap (λ d. totals_from (take joint_numbers d) 0) kept ∙ sym (reads t₀ at)
        ∙ sym (each_at (totals_at (length K.bodies) t₀) (length K.joints) j no_totals h)
        ∙ ap (λ l. get_or l j no_totals) et

    pub left_is : {k : JointTotals} → k ≡ totals_at (length K.bodies) t j → {b : Bool} → b ≡ (skipped K s j || overloaded (joint K j).breaking_load k.first K.dt)
        → record { totals = k; broken = b } ≡ new_joint K s j
    unfolding breaks
    left_is ek eb = rw (eb, ek, left_totals)

  pub stops : (solved K s).finite ≡ false → stopped K s ≡ true
  unfolding stopped
  stops e = rw e

  pub ends : (solved K s).finite ≡ true → {t : List Float} → t ≡ new_state K s → {b : Bool} → b ≡ bad_numbers (length K.bodies) t → stopped K s ≡ b
  unfolding stopped
  ends e et eb = rw (e, eb, et)

-- ---- the new state's length, its joints and their marks

module _ (K : Linkage) (s : List Float) where
  abbrev bodies : List BodyState
  bodies = each (new_body K s) (length K.bodies)

  abbrev joints : List JointState
  joints = each (new_joint K s) (length K.joints)

  bodies_length : length bodies ≡ length K.bodies
  bodies_length = each_length (new_body K s) (length K.bodies)

  joints_length : length joints ≡ length K.joints
  joints_length = each_length (new_joint K s) (length K.joints)

  pub new_length : length (new_state K s) ≡ state_length (length K.bodies) (length K.joints)
  unfolding new_state
  new_length = state_length_lem bodies joints ∙ rw (bodies_length, joints_length)

  pub new_marks : bad_marks (length K.bodies) (length K.joints) (new_state K s) ≡ false
  unfolding new_state
  new_marks = rw (bodies_length, joints_length) at (marks_good bodies joints)

  module _ (j : ℕ) (h : j < length K.joints) where
    joint_is : get_or joints j start_joint ≡ new_joint K s j
    joint_is = each_at (new_joint K s) (length K.joints) j start_joint h

    pub new_totals : totals_at (length K.bodies) (new_state K s) j ≡ (new_joint K s j).totals
    unfolding new_state
    new_totals = (rw bodies_length at (totals_read bodies joints j start_joint (rw joints_length h))) ∙ ap (λ (k : JointState). k.totals) joint_is

    pub new_mark : mark_at (length K.bodies) (new_state K s) j ≡ mark_of (new_joint K s j).broken
    unfolding new_state
    new_mark = (rw bodies_length at (mark_read bodies joints j start_joint (rw joints_length h))) ∙ ap (λ (k : JointState). mark_of k.broken) joint_is
