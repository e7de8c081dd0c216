-- An f32 is m * 2 ^ i units of 2 ^ -149, with an m of up to 24 digits. So there is none between q * 2 ^ K and (q + 1) * 2 ^ K units, for a q of 24 digits (`next_up`, `next_down`).
use mathlib.Core.Path.{◌≡◌, sym, ap, ◌∙◌}
use Prim.Native.Nat.{ℕ, ◌+◌, ◌-◌, ◌*◌, ◌^◌, ◌≤◌, ◌<◌}
use native.Mathlib.Nat.{le_trans, le_of_eq, le_of_lt, lt_of_lt_of_le, lt_of_le_of_lt, lt_of_not-le, not-le_of_lt, mul-le-mul, mul-le-mul_right, mul-lt-mul_of_pos_right, lt_of_mul-lt-mul_right, eq_of_mul-eq-mul_right, mul_assoc, pow-succ'}
use native.Mathlib.Decide.{dec_le}
use native.Mathlib.Omega.{arith}
use lib.Dec.{T}
use lib.Pow.{pow_pos, pow_mono, pow-add}
use lib.Ieee.{Float, nan, inf, fin, binary32, down, fits}
use lib.Ieee.Fits.{down_pos}
use Rattle.laws.proofs.Place.{steps, steps_is, steps_moved, fit_of}
use Rattle.root.specs.Nearest.{IsUnits}
use Rattle.root.proofs.Floor.{below_next}

pub record Digits (Y : ℕ) : Type 0 where
  pub m : ℕ
  pub i : ℕ
  pub few : m < 16777216
  pub is : Y ≡ m * 2 ^ i

-- so many units are so many steps, and a step is m's digits moved up
steps_of : (y : Float) (Y : ℕ) → T (fits binary32 y) → IsUnits y Y → Y ≡ steps binary32 y
steps_of nan Y f h = absurd h
steps_of (inf s) Y f h = absurd h
steps_of (fin s m e) Y f h = eq_of_mul-eq-mul_right (down e) (down_pos e) Y (steps binary32 (fin s m e)) (sym h.1 ∙ steps_is binary32 s m e f)

pub digits_of : (y : Float) (Y : ℕ) → T (fits binary32 y) → IsUnits y Y → Digits Y
digits_of nan Y f h = absurd h
digits_of (inf s) Y f h = absurd h
digits_of (fin s m e) Y f h =
    let j = steps_moved binary32 s m e f in
    record { m = m; i = j.0; few = (fit_of binary32 s m e f).0; is = steps_of (fin s m e) Y f h ∙ j.1 }

-- ---- between two neighbours of 24 digits there is no f32
module _ (Y : ℕ) (d : Digits Y) (q K : ℕ) (full : 8388608 ≤ q) where
  -- below the grid's step, y is below the least number of 24 digits
  finer : d.i < K → Y < q * 2 ^ K
  finer h =
      lt_of_lt_of_le (lt_of_le_of_lt (le_of_eq d.is) (mul-lt-mul_of_pos_right d.few (pow_pos d.i)))
      (le_trans (le_of_eq (mul_assoc 8388608 2 (2 ^ d.i) ∙ ap (λ (z : ℕ). 8388608 * z) (sym (pow-succ' 2 d.i)))) (mul-le-mul full (pow_mono h)))

  -- else it is a multiple of the step
  coarser : K ≤ d.i → Y ≡ d.m * 2 ^ (d.i - K) * 2 ^ K
  coarser h = d.is ∙ ap (λ (z : ℕ). d.m * 2 ^ z) (back d.i K h) ∙ ap (λ (z : ℕ). d.m * z) (pow-add 2 (d.i - K) K) ∙ sym (mul_assoc d.m (2 ^ (d.i - K)) (2 ^ K))
    where
      back : (x y : ℕ) → y ≤ x → x ≡ x - y + y
      back x y g = omega arith

  pub next_up : q * 2 ^ K < Y → (q + 1) * 2 ^ K ≤ Y
  next_up h = go (dec_le K d.i)
    where
      one_more : (x y : ℕ) → x < y → x + 1 ≤ y
      one_more x y g = omega arith

      go : Dec (K ≤ d.i) → (q + 1) * 2 ^ K ≤ Y
      go (yes g) = le_trans (mul-le-mul_right (2 ^ K) (one_more q (d.m * 2 ^ (d.i - K)) (lt_of_mul-lt-mul_right (2 ^ K) (lt_of_lt_of_le h (le_of_eq (coarser g)))))) (le_of_eq (sym (coarser g)))
      go (no g) = absurd (not-le_of_lt h (le_of_lt (finer (lt_of_not-le g))))

  pub next_down : Y < (q + 1) * 2 ^ K → Y ≤ q * 2 ^ K
  next_down h = go (dec_le K d.i)
    where
      go : Dec (K ≤ d.i) → Y ≤ q * 2 ^ K
      go (yes g) = le_trans (le_of_eq (coarser g)) (mul-le-mul_right (2 ^ K) (below_next (d.m * 2 ^ (d.i - K)) q (lt_of_mul-lt-mul_right (2 ^ K) (lt_of_le_of_lt (le_of_eq (sym (coarser g))) h))))
      go (no g) = le_of_lt (finer (lt_of_not-le g))
