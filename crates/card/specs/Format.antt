-- Document 01, 'The card': bits packed, most significant first; a float is its 32 bits. A record is a list of cells, and its content the list of their numbers.
use Rattle.std.specs.Prelude.{ℕ, zero, suc, ◌+◌, ◌*◌, ◌-◌, ◌/◌, ◌%◌, ◌^◌, Bool, false, not, ◌||◌, ◌&&◌, List, [], ◌∷◌, get_or, eqb, Float}
use Rattle.std.specs.Float.Ieee.{neg}
use Rattle.scalar.specs.Arith.{f32, f0, largest}
use Rattle.scalar.specs.Scalar.{outside}

-- the number that the n bits from bit p on make; a byte past the end is 0
unfoldable pub bits_at : List ℕ → ℕ → ℕ → ℕ
bits_at card p zero = 0
bits_at card p (suc n) = bits_at card p n * 2 + get_or card ((p + n) / 8) 0 / 2 ^ (7 - (p + n) % 8) % 2

-- what a number may be: any bits; a float of at most 1,024 in size; the same and not below zero; a cap
pub data Range : Type 0 where
  Any Bounded NotNegative Cap : Range

abbrev pub bound : Float
bound = f32 0x4480_0000

-- a number of a record: how many bits, whether it has use (by all the record's numbers), and what it may be
pub record Cell : Type 0 where
  pub width : ℕ
  pub used : List ℕ → Bool
  pub range : Range

abbrev pub width_of : List Cell → ℕ
width_of [] = 0
width_of (c ∷ cs) = c.width + width_of cs

-- the numbers of the record that begins at bit p, and of n such records in a row
unfoldable pub numbers_at : List Cell → List ℕ → ℕ → List ℕ
numbers_at [] card p = []
numbers_at (c ∷ cs) card p = bits_at card p c.width ∷ numbers_at cs card (p + c.width)

unfoldable pub records_at : List Cell → List ℕ → ℕ → ℕ → List (List ℕ)
records_at cs card p zero = []
records_at cs card p (suc n) = numbers_at cs card p ∷ records_at cs card (p + width_of cs) n

unfoldable pub any_cell : (Cell → ℕ → Bool) → List Cell → List ℕ → Bool
any_cell p [] ns = false
any_cell p (c ∷ cs) [] = false
any_cell p (c ∷ cs) (n ∷ ns) = p c n || any_cell p cs ns

-- a bit of a number without use is set
abbrev pub unused_set : List Cell → List ℕ → Bool
unused_set cs ns = any_cell (λ c n. not (c.used ns) && not (eqb n 0)) cs ns

unfoldable pub out_of : Range → ℕ → Bool
out_of Any n = false
out_of Bounded n = outside (f32 n) (neg bound) bound
out_of NotNegative n = outside (f32 n) f0 bound
out_of Cap n = outside (f32 n) f0 largest

abbrev pub out_of_range : List Cell → List ℕ → Bool
out_of_range cs ns = any_cell (λ c n. out_of c.range n) cs ns
