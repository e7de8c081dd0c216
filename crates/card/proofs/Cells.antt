-- A test of a record's numbers goes field by field.
use Prim.Native.Nat.{ℕ, zero, suc, ◌+◌, ◌*◌}
use native.Mathlib.Omega.{arith}
use mathlib.Core.Path.{◌≡◌, refl, sym, ap, ◌∙◌}
use mathlib.Core.Bool.{Bool, false, ◌||◌, or-false, or_assoc}
use mathlib.Core.List.{List, [], ◌∷◌, ◌++◌}
use lib.ListN.{replicate}
use Rattle.card.specs.Format.{Range}
use Rattle.card.specs.Format.{bits_at, Cell, width_of, numbers_at, any_cell}
use Rattle.card.specs.Parts.{any_to}
use Rattle.card.proofs.Loops.{first, any_same}

-- ---- the numbers of cells in two parts

pub numbers-append : (cs ds : List Cell) (l : List ℕ) (p : ℕ) → numbers_at (cs ++ ds) l p ≡ numbers_at cs l p ++ numbers_at ds l (p + width_of cs)
unfolding numbers_at
numbers-append [] ds l p = ap (numbers_at ds l) (omega arith)
numbers-append (c ∷ cs) ds l p =
    let e : p + c.width + width_of cs ≡ p + (c.width + width_of cs) = omega arith in
    rw (numbers-append cs ds l (p + c.width), e)

-- ---- fields of floats

-- so many floats, when they have use, and their range
pub record Row : Type 0 where
  pub count : ℕ
  pub used : List ℕ → Bool
  pub range : Range

abbrev pub cell_of : Row → Cell
cell_of r = record { width = 32; used = r.used; range = r.range }

abbrev pub flat : List Row → List Cell
flat [] = []
flat (r ∷ rows) = replicate r.count (cell_of r) ++ flat rows

module _ (p : Cell → ℕ → Bool) (l : List ℕ) where
  -- the test of the cells that begin at bit q
  abbrev pub any_at : List Cell → ℕ → Bool
  any_at [] q = false
  any_at (c ∷ cs) q = p c (bits_at l q c.width) || any_at cs (q + c.width)

  of_numbers : (cs : List Cell) (q : ℕ) → any_cell p cs (numbers_at cs l q) ≡ any_at cs q
  unfolding any_cell numbers_at
  of_numbers [] q = refl
  of_numbers (c ∷ cs) q = rw (of_numbers cs (q + c.width))

  append : (cs ds : List Cell) (q : ℕ) → any_at (cs ++ ds) q ≡ (any_at cs q || any_at ds (q + width_of cs))
  append [] ds q = ap (any_at ds) (omega arith)
  append (c ∷ cs) ds q =
      let e : q + c.width + width_of cs ≡ q + (c.width + width_of cs) = omega arith in
      rw (append cs ds (q + c.width), e) (sym (or_assoc (p c (bits_at l q c.width)) (any_at cs (q + c.width)) (any_at ds (q + (c.width + width_of cs)))))

  -- the test of the floats from bit q on
  abbrev pub float_at : Cell → ℕ → ℕ → Bool
  float_at c q k = p c (bits_at l (q + 32 * k) 32)

  module _ (r : Row) where
    repeated : (n : ℕ) (cs : List Cell) (q : ℕ) → any_at (replicate n (cell_of r) ++ cs) q ≡ (any_to (float_at (cell_of r) q) n || any_at cs (q + 32 * n))
    unfolding any_to
    repeated zero cs q = ap (any_at cs) (omega arith)
    repeated (suc n) cs q =
        let c = cell_of r in
        let here : q + 32 * 0 ≡ q = omega arith in
        let end : q + 32 + 32 * n ≡ q + 32 * suc n = omega arith in
        let later : (k : ℕ) → float_at c (q + 32) k ≡ float_at c q (suc k) = λ k. let e : q + 32 + 32 * k ≡ q + 32 * suc k = omega arith in rw e in
        rw (repeated n cs (q + 32), first (float_at c q) n, any_same (float_at c (q + 32)) (λ k. float_at c q (suc k)) n later, here, end)
        (sym (or_assoc (p c (bits_at l q 32)) (any_to (λ k. float_at c q (suc k)) n) (any_at cs (q + 32 * suc n))))

  -- whether one was found already, or is found in a field
  abbrev pub fieldwise : Bool → List Row → ℕ → Bool
  fieldwise found [] q = found
  fieldwise found (r ∷ rows) q = fieldwise (found || any_to (float_at (cell_of r) q) r.count) rows (q + 32 * r.count)

  rows_fieldwise : (found : Bool) (rows : List Row) (q : ℕ) → (found || any_at (flat rows) q) ≡ fieldwise found rows q
  rows_fieldwise found [] q = or-false found
  rows_fieldwise found (r ∷ rows) q =
      rw (repeated r r.count (flat rows) q, ← (or_assoc found (any_to (float_at (cell_of r) q) r.count) (any_at (flat rows) (q + 32 * r.count))))
      (rows_fieldwise (found || any_to (float_at (cell_of r) q) r.count) rows (q + 32 * r.count))

  pub record_fieldwise_at : (cs : List Cell) (rows : List Row) (q : ℕ) → any_cell p (cs ++ flat rows) (numbers_at (cs ++ flat rows) l q) ≡ fieldwise (any_at cs q) rows (q + width_of cs)
  record_fieldwise_at cs rows q = of_numbers (cs ++ flat rows) q ∙ append cs (flat rows) q ∙ rows_fieldwise (any_at cs q) rows (q + width_of cs)

  pub record_fieldwise : (cs : List Cell) (rows : List Row) → any_cell p (cs ++ flat rows) (numbers_at (cs ++ flat rows) l 0) ≡ fieldwise (any_at cs 0) rows (width_of cs)
  record_fieldwise cs rows = record_fieldwise_at cs rows 0 ∙ ap (fieldwise (any_at cs 0) rows) (omega arith)
