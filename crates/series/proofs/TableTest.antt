-- From one test that antt computes over a whole list to the rule at each entry.
use mathlib.Core.Bool.{Bool, true, false}
use mathlib.Core.List.{List, [], ◌∷◌}
use mathlib.Core.Path.{◌≡◌, subst}
use Prim.Native.Nat.{ℕ, zero, suc, ◌+◌, ◌<◌}
use native.Mathlib.Omega.{arith}
use lib.Dec.{T}
use lib.ListN.{length, get_or}

-- the rule holds of every entry and its place, the first entry being at place n
abbrev pub all_from : (ℕ → ℕ → Bool) → List ℕ → ℕ → Bool
all_from rule [] n = true
all_from rule (x ∷ xs) n = elim (rule n x) [ true ↦ all_from rule xs (suc n) | false ↦ false ]

pub split : (b c : Bool) → T (elim b [ true ↦ c | false ↦ false ]) → T b × T c
split true c t = (tt, t)
split false c t = absurd t

at_place : (rule : ℕ → ℕ → Bool) (xs : List ℕ) (n : ℕ) → T (all_from rule xs n) → (i j : ℕ) → n + i ≡ j → i < length xs → T (rule j (get_or xs i 0))
at_place rule [] n t i j e h = absurd (omega arith)
at_place rule (x ∷ xs) n t zero j e h = subst (λ (k : ℕ). T (rule k x)) (omega arith) (split (rule n x) (all_from rule xs (suc n)) t).0
at_place rule (x ∷ xs) n t (suc i) j e h = at_place rule xs (suc n) (split (rule n x) (all_from rule xs (suc n)) t).1 i j (omega arith) (omega arith)

-- the test over the whole list gives the rule at place i
pub each : (rule : ℕ → ℕ → Bool) (xs : List ℕ) → T (all_from rule xs 0) → (i : ℕ) → i < length xs → T (rule i (get_or xs i 0))
each rule xs t i h = at_place rule xs 0 t i i (omega arith) h
