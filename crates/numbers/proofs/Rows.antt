-- A row of values, and what is read of a list after a piece of it was written.
use Prim.Native.Nat.{ℕ, zero, suc, ◌+◌, ◌*◌, ◌≤◌, ◌<◌}
use native.Mathlib.Nat.{mul-zero, eq-or-lt_of_le, le_of_suc-le-suc, lt_of_not-le}
use native.Mathlib.Decide.{dec_le, le_ind}
use native.Mathlib.Omega.{arith}
use mathlib.Core.Path.{◌≡◌, refl, sym, ◌∙◌}
use mathlib.Core.Logic.{◌⊎◌, inl, inr}
use mathlib.Core.Bool.{Bool, ◌&&◌, and_assoc}
use mathlib.Core.List.{List, [], ◌∷◌, ◌++◌, map, append-nil, append_assoc}
use lib.ListN.{length, get_or, set, take, drop, length-append, length-set, length-take, length-drop, get_or-append}
use lib.Seq.{sets, sets-eq, length-sets, get_or_at, get_or-set_same, get_or-set_other, get_or-take, get_or-drop, ext_get_or, take_at, drop_at, take-add, drop-cons, drop-drop, drop-append-add}
use lib.Ieee.{Float, nan}
use Rattle.numbers.specs.Lists.{all, concat, each, after}
use Rattle.numbers.specs.Numbers.{numbers3, numbers4, vec3_in, quat_in}
use Rattle.numbers.proofs.Loops.{after_all}

-- ---- a row of values

module _ {A : Type 0} (v : ℕ → A) where
  pub each_length : (n : ℕ) → length (each v n) ≡ n
  unfolding each
  each_length zero = refl
  each_length (suc n) = simp (length-append, each_length n) (omega arith)

  pub each_at : (n i : ℕ) (d : A) → i < n → get_or (each v n) i d ≡ v i
  unfolding each
  each_at zero i d h = absurd (omega arith)
  each_at (suc n) i d h =
      elim (eq-or-lt_of_le (le_of_suc-le-suc h)) [
        | inl e ↦ rw e (get_or_at (each v n) (v n) [] d n (each_length n))
        | inr l ↦ get_or-append (each v n) (v n ∷ []) d i (rw (each_length n) l) ∙ each_at n i d l
      ]

  pub each_is : (d : A) (l : List A) (n : ℕ) → length l ≡ n → ((i : ℕ) → i < n → v i ≡ get_or l i d) → each v n ≡ l
  each_is d l n e f = ext_get_or d (each v n) l (each_length n ∙ sym e) (λ i k. let h : i < n = rw (each_length n) at k in each_at n i d h ∙ f i h)

-- one of them written
pub each_set : {A : Type 0} (u v : ℕ → A) (n i : ℕ) (a : A) → i < n → u i ≡ a → ((m : ℕ) → (m ≡ i → ⊥) → u m ≡ v m) → each u n ≡ set (each v n) i a
each_set u v n i a h e f =
    each_is u a (set (each v n) i a) n (length-set (each v n) i a ∙ each_length v n)
    (λ m k. elim (dec_le m i) [
      | yes p ↦ elim (eq-or-lt_of_le p) [
        | inl q ↦ rw q (e ∙ sym (get_or-set_same (each v n) i a a (rw (each_length v n) h)))
        | inr q ↦ other m k (λ z. omega arith)
      ]
      | no p ↦ other m k (λ z. let q : i < m = lt_of_not-le p in omega arith)
    ])
  where
    other : (m : ℕ) → m < n → (m ≡ i → ⊥) → u m ≡ get_or (set (each v n) i a) m a
    other m k z = f m z ∙ sym (each_at v n m a k) ∙ sym (get_or-set_other (each v n) i m a a z)

-- ---- a list that is filled place by place

module _ {A : Type 0} (v : ℕ → A) where
  abbrev pub fill : ℕ → List A → List A
  fill i l = set l i (v i)

  module _ (l : List A) where
    pub fill_length : (n : ℕ) → length (after fill l n) ≡ length l
    fill_length n = after_all fill l (λ t. length t ≡ length l) n refl (λ i t m h. length-set t i (v i) ∙ h)

    pub fill_at : (d : A) (i n : ℕ) → i < n → n ≤ length l → get_or (after fill l n) i d ≡ v i
    unfolding after
    fill_at d i n h k =
        le_ind {n = suc i} (λ m. get_or (after fill l m) i d ≡ v i)
        (get_or-set_same (after fill l i) i (v i) d (rw (fill_length i) (omega arith)))
        (λ m a q. get_or-set_other (after fill l m) m i (v m) d (λ e. omega arith) ∙ q) n h

    -- whatever it had
    pub fill_each : (d : A) (n : ℕ) → length l ≡ n → after fill l n ≡ each v n
    fill_each d n e = sym (each_is v d (after fill l n) n (fill_length n ∙ e) (λ i h. sym (fill_at d i n h (omega (arith, e)))))

-- ---- a list that a fold goes through

module _ {A : Type 0} (p : A → Bool) where
  pub all_append : (l m : List A) → all p (l ++ m) ≡ (all p l && all p m)
  unfolding all
  all_append [] m = refl
  all_append (a ∷ l) m = rw (all_append l m) (sym (and_assoc (p a) (all p l) (all p m)))

-- ---- pieces of one length, one behind the other

module _ {A : Type 0} where
  pub concat_last : (ls : List (List A)) (l : List A) → concat (ls ++ (l ∷ [])) ≡ concat ls ++ l
  unfolding concat
  concat_last [] l = append-nil l
  concat_last (m ∷ ls) l = rw (concat_last ls l, append_assoc)

module _ {A B : Type 0} (f : A → List B) (k : ℕ) (e : (a : A) → length (f a) ≡ k) where
  pub pieces_length : (l : List A) → length (concat (map f l)) ≡ k * length l
  unfolding concat
  pieces_length [] = rw mul-zero
  pieces_length (a ∷ l) = simp (length-append, e a, pieces_length l) (omega arith)

  pub piece_at : (l : List A) (i : ℕ) (d : A) (rest : List B) → i < length l → take k (drop (k * i) (concat (map f l) ++ rest)) ≡ f (get_or l i d)
  unfolding concat
  piece_at [] i d rest h = absurd (omega arith)
  piece_at (a ∷ l) zero d rest h = rw (mul-zero, append_assoc) (take_at (f a) (concat (map f l) ++ rest) k (e a))
  piece_at (a ∷ l) (suc i) d rest h =
      let next : k * suc i ≡ length (f a) + k * i = rw (e a) (omega arith) in
      rw (next, append_assoc, drop-append-add (f a) (concat (map f l) ++ rest) (k * i)) (piece_at l i d rest (omega arith))

-- ---- numbers from a place on

pub part_add : {A : Type 0} (s : List A) (at n m : ℕ) → take (n + m) (drop at s) ≡ take n (drop at s) ++ take m (drop (at + n) s)
part_add s at n m = rw (← (drop-drop n at s)) (take-add n m (drop at s))

module _ (s : List Float) (at : ℕ) where
  pub numbers3_in : at + 3 ≤ length s → take 3 (drop at s) ≡ numbers3 (vec3_in s at)
  numbers3_in h =
      let e₁ : at + 1 ≡ suc at = omega arith in
      let e₂ : at + 2 ≡ suc (suc at) = omega arith in
      rw (drop-cons s at nan (omega arith), drop-cons s (suc at) nan (omega arith), drop-cons s (suc (suc at)) nan (omega arith), e₁, e₂)

  pub numbers4_in : at + 4 ≤ length s → take 4 (drop at s) ≡ numbers4 (quat_in s at)
  numbers4_in h =
      let e₃ : at + 3 ≡ suc (suc (suc at)) = omega arith in
      rw (part_add s at 3 1, numbers3_in (omega arith), e₃, drop-cons s (suc (suc (suc at))) nan (omega arith))

-- places that are not the same
pub apart : (i m : ℕ) → (m ≡ i → ⊥) → (m < i) ⊎ (i < m)
apart i m z =
    elim (dec_le m i) [
      | yes p ↦ elim (eq-or-lt_of_le p) [
        | inl q ↦ absurd (z q)
        | inr q ↦ inl q
      ]
      | no p ↦ inr (lt_of_not-le p)
    ]

-- ---- what is read of a list after a piece of it was written

pub set_past : (vs l : List Float) (i k : ℕ) (d : Float) → (k < i) ⊎ (i + length vs ≤ k) → get_or (sets l i vs) k d ≡ get_or l k d
set_past [] l i k d h = refl
set_past (a ∷ vs) l i k d (inl h) = set_past vs (set l i a) (suc i) k d (inl (omega arith)) ∙ get_or-set_other l i k a d (λ e. omega arith)
set_past (a ∷ vs) l i k d (inr h) = set_past vs (set l i a) (suc i) k d (inr (omega arith)) ∙ get_or-set_other l i k a d (λ e. omega arith)

-- ---- n numbers from a place on

module _ (s : List Float) (at n : ℕ) where
  pub number_part : (k p : ℕ) → p ≡ at + k → k < n → get_or s p nan ≡ get_or (take n (drop at s)) k nan
  number_part k p e h = rw e (sym (get_or-take n (drop at s) k nan h ∙ get_or-drop at s k nan))

  pub vec3_part : (k p : ℕ) → p ≡ at + k → k + 3 ≤ n → vec3_in s p ≡ vec3_in (take n (drop at s)) k
  vec3_part k p e h =
      rw (number_part k p e (omega arith), number_part (k + 1) (p + 1) (omega arith) (omega arith), number_part (k + 2) (p + 2) (omega arith) (omega arith))

  pub quat_part : (k p : ℕ) → p ≡ at + k → k + 4 ≤ n → quat_in s p ≡ quat_in (take n (drop at s)) k
  quat_part k p e h =
      rw (number_part k p e (omega arith), number_part (k + 1) (p + 1) (omega arith) (omega arith), number_part (k + 2) (p + 2) (omega arith) (omega arith), number_part (k + 3) (p + 3) (omega arith) (omega arith))

-- those of a piece that was written, and others
module _ (vs l : List Float) (at : ℕ) where
  pub written_part : at + length vs ≤ length l → take (length vs) (drop at (sets l at vs)) ≡ vs
  written_part room =
      let front : length (take at l) ≡ at = rw length-take (omega arith) in
      let rest = drop (at + length vs) l in
      rw (sets-eq vs l at room, append_assoc, drop_at (take at l) (vs ++ rest) at front) (take_at vs rest (length vs) refl)

  pub other_part : (k n : ℕ) → (k + n ≤ at) ⊎ (at + length vs ≤ k) → take n (drop k (sets l at vs)) ≡ take n (drop k l)
  other_part k n h =
      let w = sets l at vs in
      ext_get_or nan (take n (drop k w)) (take n (drop k l)) (simp (length-take, length-drop, length-sets))
      (λ j r.
      let q : j < n = omega (arith, length-take n (drop k w)) in
      let aside : (k + j < at) ⊎ (at + length vs ≤ k + j) = elim h [ inl a ↦ inl (omega arith) | inr b ↦ inr (omega arith) ] in
      sym (number_part w k n j (k + j) refl q) ∙ set_past vs l at (k + j) nan aside ∙ number_part l k n j (k + j) refl q)
