-- The f32 of (s + 1) / 2 * 2 ^ (j + 1) units lies on √M's side of its mid-point with any other, where M is a * (2 ^ j * 2 ^ j), a is even and the whole part s of √a has 25 digits.
use mathlib.Core.Path.{◌≡◌, refl, sym, ap, ◌∙◌, subst}
use mathlib.Core.Logic.{inl, inr}
use Prim.Native.Nat.{ℕ, suc, ◌+◌, ◌*◌, ◌/◌, ◌%◌, ◌^◌, ◌≤◌, ◌<◌, zero-le}
use native.Mathlib.Nat.{le_trans, le_of_eq, le_of_lt, lt_of_lt_of_le, lt_of_le_of_lt, mul-le-mul, mul-le-mul_left, mul-le-mul_right, mul-lt-mul_of_pos_right, mul_assoc, mul_left_comm, mul-pos, add-mul, pow-succ'}
use native.Mathlib.Omega.{arith}
use lib.Arith.{lt_of_le-ne}
use lib.Pow.{pow_pos}
use Rattle.root.proofs.Rounded.{square, odd_mid, parity, odd_square, half_full, clash}
use Rattle.root.proofs.Neighbours.{Digits, next_up, next_down}

sq_lt_sq : (x y : ℕ) → x < y → x * x < y * y
sq_lt_sq x y h = lt_of_le_of_lt (mul-le-mul (le_of_eq refl) (le_of_lt h)) (mul-lt-mul_of_pos_right h (lt_of_le_of_lt zero-le h))

fours : (z p : ℕ) → (z * p + z * p) * (z * p + z * p) ≡ 4 * (z * z * (p * p))
fours z p = ap (λ (w : ℕ). w * w) (twice (z * p)) ∙ square 2 (z * p) ∙ ap (λ (w : ℕ). 4 * w) (square z p)
  where
    twice : (w : ℕ) → w + w ≡ 2 * w
    twice w = omega arith

four : {x y : ℕ} → x < y → 4 * x < 4 * y
four g = omega arith

module _ (a s j : ℕ) (lo : s * s ≤ a) (hi : a < (s + 1) * (s + 1)) (even : a % 2 ≡ 0) (big : 16777216 ≤ s) where
  abbrev M : ℕ
  M = a * (2 ^ j * 2 ^ j)

  abbrev n : ℕ
  n = (s + 1) / 2 * 2 ^ suc j

  -- a step of the grid is two of 2 ^ j
  steps : (q : ℕ) → q * 2 ^ suc j ≡ 2 * q * 2 ^ j
  steps q = ap (λ (z : ℕ). q * z) (pow-succ' 2 j) ∙ mul_left_comm q 2 (2 ^ j) ∙ sym (mul_assoc 2 q (2 ^ j))

  P_pos : 0 < 2 ^ j * 2 ^ j
  P_pos = mul-pos (pow_pos j) (pow_pos j)

  -- from z² < a to the sum of two z * 2 ^ j, and likewise above
  under : (z w : ℕ) → w ≤ z * 2 ^ j + z * 2 ^ j → z * z < a → w * w < 4 * M
  under z w h k = lt_of_le_of_lt (mul-le-mul h h) (lt_of_le_of_lt (le_of_eq (fours z (2 ^ j))) (four (mul-lt-mul_of_pos_right k P_pos)))

  over : (z w : ℕ) → z * 2 ^ j + z * 2 ^ j ≤ w → a < z * z → 4 * M < w * w
  over z w h k = lt_of_lt_of_le (four (mul-lt-mul_of_pos_right k P_pos)) (le_trans (le_of_eq (sym (fours z (2 ^ j)))) (mul-le-mul h h))

  even_n : s % 2 ≡ 0 → n ≡ s * 2 ^ j
  even_n e = steps ((s + 1) / 2) ∙ ap (λ (z : ℕ). z * 2 ^ j) (half s e)
    where
      half : (x : ℕ) → x % 2 ≡ 0 → 2 * ((x + 1) / 2) ≡ x
      half x g = omega arith

  odd_n : s % 2 ≡ 1 → n ≡ (s + 1) * 2 ^ j
  odd_n e = steps ((s + 1) / 2) ∙ ap (λ (z : ℕ). z * 2 ^ j) (half s e)
    where
      half : (x : ℕ) → x % 2 ≡ 1 → 2 * ((x + 1) / 2) ≡ x + 1
      half x g = omega arith

  -- s is odd and a is even, so a is no square of s
  strict : s % 2 ≡ 1 → s * s < a
  strict e = lt_of_le-ne lo (λ q. clash a even (subst (λ (z : ℕ). z % 2 ≡ 1) (ap (λ (z : ℕ). z * z) (odd_mid s e) ∙ q) (odd_square (s / 2))))

  pub below : (Y : ℕ) → Digits Y → Y < n → (Y + n) * (Y + n) < 4 * M
  below Y d h =
      elim (parity s) [
        | inl e ↦ lt_of_lt_of_le (sq_lt_sq (Y + n) (n + n) (add Y n h)) (le_trans (le_of_eq (ap (λ (z : ℕ). (z + z) * (z + z)) (even_n e) ∙ fours s (2 ^ j))) (mul-le-mul_left 4 (mul-le-mul_right (2 ^ j * 2 ^ j) lo)))
        | inr e ↦ under s (Y + n) (sum e) (strict e)
      ]
    where
      add : (x y : ℕ) → x < y → x + y < y + y
      add x y g = omega arith

      down_full : (x : ℕ) → x % 2 ≡ 1 → 16777216 ≤ x → 8388608 ≤ x / 2
      down_full x g k = omega arith

      halves : (x : ℕ) → x % 2 ≡ 1 → (x + 1) / 2 ≡ x / 2 + 1
      halves x g = omega arith

      sum : s % 2 ≡ 1 → Y + n ≤ s * 2 ^ j + s * 2 ^ j
      sum e =
          let k : Y ≤ s / 2 * 2 ^ suc j = next_down Y d (s / 2) (suc j) (down_full s e big) (lt_of_lt_of_le h (le_of_eq (ap (λ (z : ℕ). z * 2 ^ suc j) (halves s e)))) in
          let c : s / 2 * 2 ^ suc j ≡ 2 * (s / 2) * 2 ^ j = steps (s / 2) in
          let b : 2 * (s / 2) * 2 ^ j + 1 * 2 ^ j ≡ s * 2 ^ j = sym (add-mul (2 * (s / 2)) 1 (2 ^ j)) ∙ ap (λ (z : ℕ). z * 2 ^ j) (odd_mid s e) in
          let t : n ≡ s * 2 ^ j + 1 * 2 ^ j = odd_n e ∙ add-mul s 1 (2 ^ j) in
          total Y (s / 2 * 2 ^ suc j) (2 * (s / 2) * 2 ^ j) (1 * 2 ^ j) (s * 2 ^ j) n k c b t
        where
          total : (y u v p z w : ℕ) → y ≤ u → u ≡ v → v + p ≡ z → w ≡ z + p → y + w ≤ z + z
          total y u v p z w k c b t = omega arith

  pub above : (Y : ℕ) → Digits Y → n < Y → 4 * M < (Y + n) * (Y + n)
  above Y d h =
      elim (parity s) [
        | inl e ↦ over (s + 1) (Y + n) (sum e) hi
        | inr e ↦ over (s + 1) (Y + n) (more e) hi
      ]
    where
      more : s % 2 ≡ 1 → (s + 1) * 2 ^ j + (s + 1) * 2 ^ j ≤ Y + n
      more e = total ((s + 1) * 2 ^ j) n Y (odd_n e) h
        where
          total : (z w y : ℕ) → w ≡ z → w < y → z + z ≤ y + w
          total z w y c k = omega arith

      sum : s % 2 ≡ 0 → (s + 1) * 2 ^ j + (s + 1) * 2 ^ j ≤ Y + n
      sum e =
          let k : ((s + 1) / 2 + 1) * 2 ^ suc j ≤ Y = next_up Y d ((s + 1) / 2) (suc j) (half_full s big) h in
          let c : ((s + 1) / 2 + 1) * 2 ^ suc j ≡ s * 2 ^ j + 2 * 2 ^ j = steps ((s + 1) / 2 + 1) ∙ ap (λ (z : ℕ). z * 2 ^ j) (next s e) ∙ add-mul s 2 (2 ^ j) in
          let b : (s + 1) * 2 ^ j ≡ s * 2 ^ j + 1 * 2 ^ j = add-mul s 1 (2 ^ j) in
          total Y n (((s + 1) / 2 + 1) * 2 ^ suc j) (s * 2 ^ j) (2 ^ j) ((s + 1) * 2 ^ j) k c b (even_n e)
        where
          next : (x : ℕ) → x % 2 ≡ 0 → 2 * ((x + 1) / 2 + 1) ≡ x + 2
          next x g = omega arith

          total : (y w u z p t : ℕ) → u ≤ y → u ≡ z + 2 * p → t ≡ z + 1 * p → w ≡ z → t + t ≤ y + w
          total y w u z p t k c b q = omega arith
