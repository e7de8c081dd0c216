-- Laws of the loops: the first turn, one turn more, and a loop that is left early.
use Prim.Native.Nat.{ℕ, zero, suc, ◌+◌, ◌≤◌, ◌<◌}
use native.Mathlib.Nat.{eq-or-lt_of_le, le_of_suc-le-suc}
use native.Mathlib.Numerals.{add-one}
use native.Mathlib.Omega.{arith}
use native.Mathlib.Decide.{le_ind}
use mathlib.Core.Path.{◌≡◌, refl, sym, ap, ◌∙◌, subst}
use mathlib.Core.Logic.{inl, inr}
use Rattle.numbers.specs.Lists.{after}

module _ {S : Type 0} (f : ℕ → S → S) (s : S) where
  pub after_none : after f s 0 ≡ s
  unfolding after
  after_none = refl

  pub after_more : (i : ℕ) → after f s (i + 1) ≡ f i (after f s i)
  unfolding after
  after_more i = rw add-one

  -- a turn of a loop: t is what i steps gave, and v what step i makes of it
  pub after_turn : {i : ℕ} {t v : S} → t ≡ after f s i → v ≡ f i t → v ≡ after f s (i + 1)
  after_turn {i} {t} {v} inv e = e ∙ ap (f i) inv ∙ sym (after_more i)

  pub after_done : {i n : ℕ} {t : S} → t ≡ after f s i → i ≤ n → n ≤ i → t ≡ after f s n
  after_done {i} {n} {t} inv a b = let e : n ≡ i = omega arith in rw e inv

  -- from a state that each step keeps, no later step changes anything
  pub after_kept : (i n : ℕ) → i ≤ n → ((m : ℕ) → f m (after f s i) ≡ after f s i) → after f s n ≡ after f s i
  unfolding after
  after_kept i n h k = le_ind {n = i} (λ m. after f s m ≡ after f s i) refl (λ m _ q. rw q (k m)) n h

  -- what the start has and each step below n keeps
  pub after_all : (P : S → Type 0) (n : ℕ) → P s → ((i : ℕ) (t : S) → i < n → P t → P (f i t)) → P (after f s n)
  unfolding after
  after_all P zero base step = base
  after_all P (suc n) base step = step n (after f s n) (omega arith) (after_all P n base (λ i t h. step i t (omega arith)))

  -- what a step leaves only where it was there before: there after n steps, there after fewer
  pub after_back : (P : S → Type 0) → ((i : ℕ) (t : S) → P (f i t) → P t) → (i n : ℕ) → i ≤ n → P (after f s n) → P (after f s i)
  unfolding after
  after_back P k i zero h p = let e : i ≡ 0 = omega arith in rw e p
  after_back P k i (suc n) h p =
      elim (eq-or-lt_of_le h) [
        | inl e ↦ subst (λ (m : ℕ). P (after f s m)) (sym e) p
        | inr l ↦ after_back P k i n (le_of_suc-le-suc l) (k n (after f s n) p)
      ]

-- loops whose steps are the same
pub after_same : {S : Type 0} (f g : ℕ → S → S) (s : S) (n : ℕ) → ((i : ℕ) (t : S) → i < n → f i t ≡ g i t) → after f s n ≡ after g s n
unfolding after
after_same f g s zero e = refl
after_same f g s (suc n) e = ap (f n) (after_same f g s n (λ i t h. e i t (omega arith))) ∙ e n (after g s n) (omega arith)
