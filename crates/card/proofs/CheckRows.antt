-- The rows of the checks from 6 on, from what is found in the records.
use Prim.Native.Nat.{ℕ, ◌+◌, ◌*◌}
use native.Mathlib.Omega.{arith}
use mathlib.Core.Path.{◌≡◌, refl, sym, ap, ◌∙◌}
use mathlib.Core.Bool.{Bool, true, false, cond, ◌||◌}
use mathlib.Core.List.{List, [], ◌∷◌}
use Rattle.vector.specs.Rotation.{norm_squared_of}
use Rattle.card.specs.declared.checks.Faults.{Faults}
use Rattle.card.specs.Format.{width_of, numbers_at, records_at, unused_set, out_of_range}
use Rattle.card.specs.Card.{at, body, quat}
use Rattle.card.specs.Checks.{any, misfit, dominant, too_wide, reversed, off_unit, off_axis, wrong_pair, Refusal, refuse, first_of, record_checks}
use Rattle.card.specs.declared.edition.Edition as named
use Rattle.card.proofs.Editions.{cells, header_width}
use Rattle.card.specs.Parts.{sizes_of, card_with, header_faults, body_faults, joint_faults, faults_of, used_out}
use Rattle.card.proofs.Bools.{or_left, or_right}
use Rattle.card.proofs.Unused.{used_enough, any_agree}

one : (n : ℕ) (b : Bool) (checks : List Refusal) → first_of (refuse n b ∷ checks) ≡ cond b n (first_of checks)
one n true checks = refl
one n false checks = refl

-- check 7 is as it was looked for once check 6 has passed
decide : (a : Bool) {b c d e f g a' b' c' d' e' f' g' : Bool} → a ≡ a' → b ≡ b' → (a ≡ false → c ≡ c') → d ≡ d' → e ≡ e' → f ≡ f' → g ≡ g'
    → first_of (refuse 6 a' ∷ refuse 17 b' ∷ refuse 7 c' ∷ refuse 19 d' ∷ refuse 8 e' ∷ refuse 9 f' ∷ refuse 10 g' ∷ []) ≡ cond a 6 (cond b 17 (cond c 7 (cond d 19 (cond e 8 (cond f 9 (cond g 10 0))))))
decide true ea eb ec ed ee ef eg = rw (← ea) refl
decide false {b} {c} {d} {e} {f} {g} ea eb ec ed ee ef eg =
    rw (← ea, ← eb, ← (ec refl), ← ed, ← ee, ← ef, ← eg)
    (one 17 b _ ∙ ap (cond b 17) (one 7 c _ ∙ ap (cond c 7) (one 19 d _ ∙ ap (cond d 19) (one 8 e _ ∙ ap (cond e 8) (one 9 f _ ∙ ap (cond f 9) (one 10 g []))))))

-- of a card of an edition, which has so many bodies and joints
module _ (e : named.Edition) (card : List ℕ) (bodies joints : ℕ) where
  abbrev header_row : List ℕ
  header_row = numbers_at (cells e).header card 0

  abbrev body_rows : List (List ℕ)
  body_rows = records_at body card (width_of (cells e).header) bodies

  abbrev joint_rows : List (List ℕ)
  joint_rows = records_at (cells e).joint card (width_of (cells e).header + 752 * bodies) joints

  -- the same rows by their bytes, as the code looks for them, and what it finds in them
  abbrev bytes : ℕ
  bytes = (sizes_of e).header_bytes

  abbrev of_bodies : List (List ℕ)
  of_bodies = records_at body card (8 * bytes) bodies

  abbrev of_joints : List (List ℕ)
  of_joints = records_at (cells e).joint card (8 * (bytes + 94 * bodies)) joints

  abbrev h : Faults
  h = header_faults (cells e).header header_row

  abbrev b : Faults
  b = faults_of body_faults of_bodies

  abbrev j : Faults
  j = faults_of (joint_faults (cells e).joint) of_joints

  bodies_same : of_bodies ≡ body_rows
  bodies_same = ap (λ p. records_at body card p bodies) (header_width e)

  joints_same : of_joints ≡ joint_rows
  joints_same = ap (λ p. records_at (cells e).joint card p joints) (omega (arith, header_width e))

  row_6 : (h.bits || b.bits || j.bits) ≡ (unused_set (cells e).header header_row || any (unused_set body) body_rows || any (λ r. unused_set (cells e).joint r || misfit r) joint_rows)
  unfolding header_faults body_faults joint_faults faults_of
  row_6 = rw (bodies_same, joints_same) refl

  -- no bit is set that may not be
  abbrev Clean : Type 0
  Clean = (h.bits || b.bits || j.bits) ≡ false

  row_17 : b.dominance ≡ any dominant body_rows
  unfolding body_faults faults_of
  row_17 = rw bodies_same refl

  row_7 : Clean → (h.floats || b.floats || j.floats) ≡ (out_of_range (cells e).header header_row || any (out_of_range body) body_rows || any (out_of_range (cells e).joint) joint_rows)
  unfolding header_faults body_faults joint_faults faults_of
  row_7 clean =
      let t = sym row_6 ∙ clean in
      let u = or_left (unused_set (cells e).header header_row || any (unused_set body) body_rows) _ t in
      rw (
        bodies_same,
        joints_same,
        used_enough (cells e).header header_row (or_left (unused_set (cells e).header header_row) _ u),
        any_agree (unused_set body) (used_out body) (out_of_range body) (used_enough body) body_rows (or_right (unused_set (cells e).header header_row) _ u),
        any_agree (λ r. unused_set (cells e).joint r || misfit r) (used_out (cells e).joint) (out_of_range (cells e).joint) (λ r passed. used_enough (cells e).joint r (or_left (unused_set (cells e).joint r) _ passed)) joint_rows
            (or_right (unused_set (cells e).header header_row || any (unused_set body) body_rows) _ t),
      )
      refl

  row_19 : j.angles ≡ any too_wide joint_rows
  unfolding joint_faults faults_of
  row_19 = rw joints_same refl

  row_8 : j.limits ≡ any (λ r. reversed 28 r || reversed 30 r) joint_rows
  unfolding joint_faults faults_of
  row_8 = rw joints_same refl

  row_9 : (b.norms || j.norms) ≡ (any (λ r. off_unit (norm_squared_of (quat r 9))) body_rows || any off_axis joint_rows)
  unfolding body_faults joint_faults faults_of
  row_9 = rw (bodies_same, joints_same) refl

  row_10 : any (λ r. wrong_pair of_bodies (at 1 r) (at 2 r)) of_joints ≡ any (λ r. wrong_pair body_rows (at 1 r) (at 2 r)) joint_rows
  row_10 = rw (bodies_same, joints_same) refl

  pub checks_are : first_of (record_checks (cells e) (card_with (cells e) card bodies joints))
      ≡ cond (h.bits || b.bits || j.bits) 6 (cond b.dominance 17 (cond (h.floats || b.floats || j.floats) 7 (cond j.angles 19 (cond j.limits 8 (cond (b.norms || j.norms) 9 (cond (any (λ r. wrong_pair of_bodies (at 1 r) (at 2 r)) of_joints) 10 0))))))
  checks_are = decide (h.bits || b.bits || j.bits) row_6 row_17 row_7 row_19 row_8 row_9 row_10
