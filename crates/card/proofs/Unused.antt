-- Once check 6 has passed a number without use is zero, and so in range: check 7 need only look at those that have use.
use Prim.Native.Nat.{ℕ}
use mathlib.Core.Path.{◌≡◌, refl}
use mathlib.Core.Bool.{Bool, true, false, not, ◌&&◌, and-true}
use mathlib.Core.List.{List, [], ◌∷◌}
use lib.Dec.{eqb}
use lib.Ieee.{of_bits, of_fields, neg, le, lt, eq}
use borrow.Author.Tests.{eqb-true, not-false}
use Rattle.scalar.specs.Scalar.{outside}
use Rattle.card.specs.Format.{Range}
use Rattle.card.specs.Format.{Any, Bounded, NotNegative, Cap}
use Rattle.card.specs.Format.{Cell, any_cell, unused_set, out_of, out_of_range}
use Rattle.card.specs.Checks.{any}
use Rattle.card.specs.Parts.{used_out}
use Rattle.card.proofs.Bools.{or_left, or_right}

zero_in : (r : Range) → out_of r 0 ≡ false
unfolding out_of outside of_bits of_fields neg le lt eq
zero_in Any = refl
zero_in Bounded = refl
zero_in NotNegative = refl
zero_in Cap = refl

number : (r : Range) (used : Bool) (n : ℕ) → (not used && not (eqb n 0)) ≡ false → (out_of r n && used) ≡ out_of r n
number r true n e = and-true (out_of r n)
number r false n e = rw (eqb-true n 0 (not-false (eqb n 0) e), zero_in r)

-- `all` are the record's numbers, by which a cell has use
module _ (all : List ℕ) where
  numbers : (cs : List Cell) (ns : List ℕ) → any_cell (λ c n. not (c.used all) && not (eqb n 0)) cs ns ≡ false
      → any_cell (λ c n. out_of c.range n && c.used all) cs ns ≡ any_cell (λ c n. out_of c.range n) cs ns
  unfolding any_cell
  numbers [] ns e = refl
  numbers (c ∷ cs) [] e = refl
  numbers (c ∷ cs) (n ∷ ns) e = rw (number c.range (c.used all) n (or_left (not (c.used all) && not (eqb n 0)) _ e), numbers cs ns (or_right (not (c.used all) && not (eqb n 0)) _ e))

pub used_enough : (cs : List Cell) (ns : List ℕ) → unused_set cs ns ≡ false → used_out cs ns ≡ out_of_range cs ns
used_enough cs ns e = numbers ns cs ns e

-- two tests that agree on each record that passes a third
pub any_agree : (p q r : List ℕ → Bool) → ((ns : List ℕ) → p ns ≡ false → q ns ≡ r ns) → (l : List (List ℕ)) → any p l ≡ false → any q l ≡ any r l
unfolding any
any_agree p q r h [] e = refl
any_agree p q r h (x ∷ l) e = rw (h x (or_left (p x) (any p l) e), any_agree p q r h l (or_right (p x) (any p l) e))
