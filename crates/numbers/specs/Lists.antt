-- The few words about lists that other definitions use.
use Rattle.std.specs.Prelude.{ℕ, zero, suc, Bool, true, ◌&&◌, List, [], ◌∷◌, ◌++◌}

module _ {A : Type 0} where
  unfoldable pub all : (A → Bool) → List A → Bool
  all p [] = true
  all p (a ∷ l) = p a && all p l

  unfoldable pub concat : List (List A) → List A
  concat [] = []
  concat (l ∷ ls) = l ++ concat ls

  -- f 0 to f (n - 1)
  unfoldable pub each : (ℕ → A) → ℕ → List A
  each f zero = []
  each f (suc n) = each f n ++ (f n ∷ [])

  -- a by the steps 0 to n - 1, in order
  unfoldable pub after : (ℕ → A → A) → A → ℕ → A
  after step a zero = a
  after step a (suc n) = step n (after step a n)
