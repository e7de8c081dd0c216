-- The first of a list of checks that applies, check by check, and in a list that others stand behind.
use Rattle.std.specs.Prelude.{if◌then◌else◌}
use Prim.Native.Nat.{ℕ, zero, suc}
use native.Mathlib.Omega.{arith}
use mathlib.Core.Path.{◌≡◌, refl, ap, ◌∙◌}
use mathlib.Core.Bool.{Bool, true, false, cond}
use mathlib.Core.List.{List, [], ◌∷◌, ◌++◌}
use lib.Dec.{T, eqb}
use borrow.Author.Tests.{ne_eqb}
use Rattle.card.specs.Checks.{Refusal, refuse, first_of}

pub data First : List Refusal → ℕ → Type 0 where
  none : First [] 0
  applies : {k : ℕ} {b : Bool} {checks : List Refusal} → b ≡ true → First (refuse k b ∷ checks) k
  passes : {k n : ℕ} {b : Bool} {checks : List Refusal} → b ≡ false → First checks n → First (refuse k b ∷ checks) n

pub first : {checks : List Refusal} {n : ℕ} → First checks n → n ≡ first_of checks
first none = refl
first (applies e) = rw e
first (passes e f) = rw e (first f)

-- checks whose answer is known
pub answer : (checks : List Refusal) → First checks (first_of checks)
answer [] = none
answer (refuse k true ∷ checks) = applies refl
answer (refuse k false ∷ checks) = passes refl (answer checks)

pub ends : (checks : List Refusal) {n : ℕ} → n ≡ first_of checks → First checks n
ends checks e = rw e (answer checks)

-- ---- checks that are passed

-- a row by its number
abbrev pub test_of : ℕ → List Refusal → Bool
test_of n [] = false
test_of n (refuse k b ∷ checks) = cond (eqb n k) b (test_of n checks)

abbrev pub numbered : List Refusal → Bool
numbered [] = true
numbered (refuse zero b ∷ checks) = false
numbered (refuse (suc k) b ∷ checks) = numbered checks

either : (c b : Bool) → b ≡ false → cond c false b ≡ false
either true b e = refl
either false b e = e

pub passed : (checks : List Refusal) → T (numbered checks) → first_of checks ≡ 0 → (n : ℕ) → test_of n checks ≡ false
passed [] t e n = refl
passed (refuse zero b ∷ checks) t e n = absurd t
passed (refuse (suc k) true ∷ checks) t e n = absurd (omega arith)
passed (refuse (suc k) false ∷ checks) t e n = either (eqb n (suc k)) (test_of n checks) (passed checks t e n)

-- the checks behind the first k
abbrev pub behind : ℕ → List Refusal → List Refusal
behind zero checks = checks
behind (suc k) [] = []
behind (suc k) (check ∷ checks) = behind k checks

pub passed_behind : (checks : List Refusal) → T (numbered checks) → first_of checks ≡ 0 → (k : ℕ) → first_of (behind k checks) ≡ 0
passed_behind checks t e zero = e
passed_behind [] t e (suc k) = refl
passed_behind (refuse zero b ∷ checks) t e (suc k) = absurd t
passed_behind (refuse (suc n) true ∷ checks) t e (suc k) = absurd (omega arith)
passed_behind (refuse (suc n) false ∷ checks) t e (suc k) = passed_behind checks t e k

-- ---- checks behind others

pub first_append : (checks later : List Refusal) → T (numbered checks) → first_of (checks ++ later) ≡ (if eqb (first_of checks) 0 then first_of later else first_of checks)
first_append [] later t = refl
first_append (refuse zero b ∷ checks) later t = absurd t
first_append (refuse (suc k) true ∷ checks) later t = rw (ne_eqb (suc k) 0 (λ z. omega arith))
first_append (refuse (suc k) false ∷ checks) later t = first_append checks later t

pub passed_on : (checks later : List Refusal) → T (numbered checks) → first_of checks ≡ 0 → first_of (checks ++ later) ≡ first_of later
passed_on checks later t e = first_append checks later t ∙ ap (λ (k : ℕ). if eqb k 0 then first_of later else k) e

pub refused_first : (checks later : List Refusal) → T (numbered checks) → (first_of checks ≡ 0 → ⊥) → first_of (checks ++ later) ≡ first_of checks
refused_first checks later t x = first_append checks later t ∙ ap (λ b. if b then first_of later else first_of checks) (ne_eqb (first_of checks) 0 x)

pub passed_first : (checks later : List Refusal) → T (numbered checks) → first_of (checks ++ later) ≡ 0 → first_of checks ≡ 0
passed_first [] later t e = refl
passed_first (refuse zero b ∷ checks) later t e = absurd t
passed_first (refuse (suc k) true ∷ checks) later t e = e
passed_first (refuse (suc k) false ∷ checks) later t e = passed_first checks later t e
