-- A record's own part of the card has its numbers; a row of records, one by one.
use Prim.Native.Nat.{ℕ, zero, suc, ◌+◌, ◌*◌, ◌/◌, ◌%◌, ◌≤◌, ◌<◌}
use native.Mathlib.Nat.{suc-mul}
use native.Mathlib.Numerals.{add-one}
use native.Mathlib.Omega.{arith}
use mathlib.Core.Path.{◌≡◌, refl, ap, ◌∙◌}
use mathlib.Core.List.{List, [], ◌∷◌, ◌++◌}
use lib.Seq.{get_or-take, get_or-drop}
use lib.ListN.{length, get_or, take, drop, length-take, length-drop}
use Rattle.card.specs.Format.{bits_at, Cell, width_of, numbers_at, records_at}

-- ---- lists

pub part_length : (l : List ℕ) (from n : ℕ) → from + n ≤ length l → n ≤ length (take n (drop from l))
part_length l from n h = rw (length-take n (drop from l), length-drop from l) (omega arith)

-- ---- a part

module _ (l : List ℕ) (at n : ℕ) where
  abbrev part : List ℕ
  part = take n (drop at l)

  byte_of : (p : ℕ) → p < 8 * n → get_or part (p / 8) 0 ≡ get_or l ((8 * at + p) / 8) 0
  byte_of p h =
      let e : (8 * at + p) / 8 ≡ at + p / 8 = omega arith in
      get_or-take n (drop at l) (p / 8) 0 (omega arith) ∙ get_or-drop at l (p / 8) 0 ∙ rw e

  bits_of : (p w : ℕ) → p + w ≤ 8 * n → bits_at part p w ≡ bits_at l (8 * at + p) w
  unfolding bits_at
  bits_of p zero h = refl
  bits_of p (suc w) h =
      let m : (8 * at + p + w) % 8 ≡ (p + w) % 8 = omega arith in
      let a : 8 * at + (p + w) ≡ 8 * at + p + w = omega arith in
      rw (bits_of p w (omega arith), byte_of (p + w) (omega arith), m, a)

  numbers_of : (cs : List Cell) (p : ℕ) → p + width_of cs ≤ 8 * n → numbers_at cs part p ≡ numbers_at cs l (8 * at + p)
  unfolding numbers_at
  numbers_of [] p h = refl
  numbers_of (c ∷ cs) p h =
      let a : 8 * at + (p + c.width) ≡ 8 * at + p + c.width = omega arith in
      rw (bits_of p c.width (omega arith), numbers_of cs (p + c.width) (omega arith), a)

  pub numbers_part : (cs : List Cell) → width_of cs ≤ 8 * n → numbers_at cs part 0 ≡ numbers_at cs l (8 * at)
  numbers_part cs h = numbers_of cs 0 (omega arith) ∙ ap (numbers_at cs l) (omega arith)

-- ---- records in a row

module _ (cs : List Cell) (l : List ℕ) where
  pub record_at : (p n i : ℕ) → i < n → get_or (records_at cs l p n) i [] ≡ numbers_at cs l (p + i * width_of cs)
  unfolding records_at
  record_at p zero i h = absurd (omega arith)
  record_at p (suc n) zero h = ap (numbers_at cs l) (omega arith)
  record_at p (suc n) (suc i) h = record_at (p + width_of cs) n i (omega arith) ∙ ap (numbers_at cs l) (rw (suc-mul i (width_of cs)) (omega arith))

pub records_length : (cs : List Cell) (l : List ℕ) (p n : ℕ) → length (records_at cs l p n) ≡ n
unfolding records_at
records_length cs l p zero = refl
records_length cs l p (suc n) = ap suc (records_length cs l (p + width_of cs) n)

-- the last of a row
pub last : (cs : List Cell) (l : List ℕ) (p n : ℕ) → records_at cs l p (suc n) ≡ records_at cs l p n ++ (numbers_at cs l (p + n * width_of cs) ∷ [])
unfolding records_at
last cs l p zero = ap (λ q. numbers_at cs l q ∷ []) (omega arith)
last cs l p (suc n) =
    let e : p + width_of cs + n * width_of cs ≡ p + suc n * width_of cs = rw (suc-mul n (width_of cs)) (omega arith) in
    ap (λ r. numbers_at cs l p ∷ r) (last cs l (p + width_of cs) n ∙ rw e refl)

pub last_record : (cs : List Cell) (l : List ℕ) (p n : ℕ) → records_at cs l p (n + 1) ≡ records_at cs l p n ++ (numbers_at cs l (p + n * width_of cs) ∷ [])
last_record cs l p n = rw add-one (last cs l p n)
