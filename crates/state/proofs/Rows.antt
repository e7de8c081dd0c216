-- The state by its bodies and joints: what is read after a write, and of a whole state.
use Prim.Native.Nat.{ℕ, ◌+◌, ◌*◌, ◌≤◌, ◌<◌}
use native.Mathlib.Omega.{arith}
use mathlib.Core.Path.{◌≡◌, refl, sym, ap, ◌∙◌}
use mathlib.Core.Logic.{◌⊎◌, inl, inr}
use mathlib.Core.List.{List, [], map, append-nil}
use lib.ListN.{length, get_or, set, take, drop, length-append}
use lib.Seq.{sets, drop-append-add}
use lib.Ieee.{Float}
use Rattle.solver_body.specs.declared.BodyState.{BodyState}
use Rattle.xpbd_joints.specs.declared.JointTotals.{JointTotals}
use Rattle.numbers.specs.Lists.{concat, each}
use Rattle.numbers.proofs.Rows.{each_set, pieces_length, piece_at, apart, number_part, vec3_part, quat_part, written_part, other_part}
use Rattle.state.specs.State.{body_numbers, total_numbers, joint_numbers, state_length, body_from, totals_from, mark_from, body_at, totals_at, mark_at, numbers_of, totals_numbers, mark_of, joint_numbers_of, state_of}
use Rattle.state.specs.declared.places.JointState.{JointState}

-- ---- values that are read of so many numbers from a place on

abbrev ByPart : {A : Type 0} → (List Float → ℕ → A) → ℕ → Type 0
ByPart f n = (s : List Float) (at : ℕ) → f s at ≡ f (take n (drop at s)) 0

body_by_part : ByPart body_from body_numbers
unfolding body_from
body_by_part s at =
    cc (vec3_part s at body_numbers 0 at (omega arith) (omega arith), quat_part s at body_numbers 3 (at + 3) refl (omega arith), vec3_part s at body_numbers 7 (at + 7) refl (omega arith), vec3_part s at body_numbers 10 (at + 10) refl (omega arith))

pub totals_by_part : (n : ℕ) → total_numbers ≤ n → ByPart totals_from n
unfolding totals_from
totals_by_part n h s at =
    cc (vec3_part s at n 0 at (omega arith) (omega arith), vec3_part s at n 3 (at + 3) refl (omega arith), vec3_part s at n 6 (at + 6) refl (omega arith), vec3_part s at n 9 (at + 9) refl (omega arith))

mark_by_part : ByPart mark_from joint_numbers
mark_by_part s at = number_part s at joint_numbers total_numbers (at + total_numbers) refl (omega arith)

module _ {A : Type 0} (f : List Float → ℕ → A) (n : ℕ) (reads : ByPart f n) where
  of_part : (s : List Float) (at : ℕ) {l : List Float} → take n (drop at s) ≡ l → f s at ≡ f l 0
  of_part s at e = reads s at ∙ ap (λ l. f l 0) e

  -- of another part than one that is written
  past : (vs s : List Float) (at k : ℕ) → (k + n ≤ at) ⊎ (at + length vs ≤ k) → f (sets s at vs) k ≡ f s k
  past vs s at k h = of_part (sets s at vs) k (other_part vs s at k n h) ∙ sym (reads s k)

pub part_read : (s : List Float) (i : ℕ) (b : BodyState) → take body_numbers (drop (body_numbers * i) s) ≡ numbers_of b → body_at s i ≡ b
unfolding body_from
part_read s i b e = of_part body_from body_numbers body_by_part s (body_numbers * i) e

-- ---- a joint's totals that are written

pub totals_put : (s : List Float) (n j m : ℕ) → j < m → state_length n m ≤ length s → (t : JointTotals)
    → each (totals_at n (sets s (state_length n j) (totals_numbers t))) m ≡ set (each (totals_at n s) m) j t
unfolding totals_from
totals_put s n j m h room t =
    let reads = totals_by_part total_numbers (omega arith) in
    let at = state_length n j in
    each_set _ _ m j t h (of_part totals_from total_numbers reads _ at (written_part (totals_numbers t) s at (omega arith)))
    (λ i z. past totals_from total_numbers reads (totals_numbers t) s at (state_length n i) (elim (apart j i z) [ inl q ↦ inl (omega arith) | inr q ↦ inr (omega arith) ]))

-- ---- what is read of a state that is written whole

module _ (bs : List BodyState) (ks : List JointState) where
  abbrev state : List Float
  state = state_of bs ks

  bodies_length : length (concat (map numbers_of bs)) ≡ body_numbers * length bs
  bodies_length = pieces_length numbers_of body_numbers (λ _. refl) bs

  pub state_length_lem : length state ≡ state_length (length bs) (length ks)
  state_length_lem =
      length-append (concat (map numbers_of bs)) (concat (map joint_numbers_of ks)) ∙ rw (bodies_length, pieces_length joint_numbers_of joint_numbers (λ _. refl) ks)

  pub body_part : (i : ℕ) (d : BodyState) → i < length bs → take body_numbers (drop (body_numbers * i) state) ≡ numbers_of (get_or bs i d)
  body_part i d h = piece_at numbers_of body_numbers (λ _. refl) bs i d (concat (map joint_numbers_of ks)) h

  module _ (j : ℕ) (d : JointState) (h : j < length ks) where
    joint_part : take joint_numbers (drop (state_length (length bs) j) state) ≡ joint_numbers_of (get_or ks j d)
    joint_part =
        let joints = concat (map joint_numbers_of ks) in
        rw (← bodies_length, drop-append-add (concat (map numbers_of bs)) joints (joint_numbers * j), ← (append-nil joints)) (piece_at joint_numbers_of joint_numbers (λ _. refl) ks j d [] h)

    pub totals_read : totals_at (length bs) state j ≡ (get_or ks j d).totals
    unfolding totals_from
    totals_read = of_part totals_from joint_numbers (totals_by_part joint_numbers (omega arith)) state (state_length (length bs) j) joint_part

    pub mark_read : mark_at (length bs) state j ≡ mark_of (get_or ks j d).broken
    mark_read = of_part mark_from joint_numbers mark_by_part state (state_length (length bs) j) joint_part
