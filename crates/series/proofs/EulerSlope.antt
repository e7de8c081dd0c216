-- Euler's sum of n terms on a grid of 1 / q, as a whole number of 1 / M, is a function with a slope, as `Chord` asks.
use Prim.Native.Nat.{ℕ, ◌+◌, ◌*◌, ◌^◌, ◌/◌, ◌≤◌, ◌<◌}
use native.Mathlib.Nat.{mul-le-mul_left, mul-le-mul_right, mul-le-mul, le_trans, le_of_mul-le-mul_left, le_of_mul-le-mul_right, mul-pos, div-mul-le_self, lt-div-mul-add}
use native.Mathlib.Omega.{arith}
use native.Mathlib.Numerals.{add-one}
use lib.Ieee.Nearest.{div_mono}
use Rattle.series.specs.Series.{euler_denominator, euler_sum}
use Rattle.series.proofs.EulerGrowth.{ev, od}
use Rattle.series.specs.Interpolation.{Sloped}
use Rattle.series.proofs.EulerSums.{cauchy, at_most_one, squares_pos, den_pos}
use Rattle.series.proofs.EulerNearby.{law_up, law_down, tail}

up_step : (M A q c Da Db Na Nb Pa Pb p : ℕ) → 0 < A * (Da * Db) → A * (Nb * Da) ≤ A * (Na * Db) + (q + 1) * (Da * Db) → Pb * Db ≤ M * Nb → M * Na ≤ (Pa + 1) * Da → M * q ≤ (p + 1) * A → M ≤ c * A → Pb ≤ Pa + p + (c + 2)
up_step M A q c Da Db Na Nb Pa Pb p pos h hb ha hp hc =
    le_of_mul-le-mul_left (fin (A * (Da * Db)) (mul-le-mul_left M h) (mul-le-mul_left (A * Da) hb) (mul-le-mul_left (A * Db) ha) (mul-le-mul_left (Da * Db) hp) (mul-le-mul_left (Da * Db) hc)) pos
  where
    fin : (X : ℕ) → M * (A * (Nb * Da)) ≤ M * (A * (Na * Db) + (q + 1) * (Da * Db)) → A * Da * (Pb * Db) ≤ A * Da * (M * Nb) → A * Db * (M * Na) ≤ A * Db * ((Pa + 1) * Da) → Da * Db * (M * q) ≤ Da * Db * ((p + 1) * A) → Da * Db * M ≤ Da * Db * (c * A) →
        A * (Da * Db) * Pb ≤ A * (Da * Db) * (Pa + p + (c + 2))
    fin X h₁ h₂ h₃ h₄ h₅ = omega arith

down_step : (M B q c Da Db Na Nb Pa Pb p : ℕ) → 0 < B * (Da * Db) → B * (Na * Db) + q * (Da * Db) ≤ B * (Nb * Da) + 2 * (Da * Db) → Pa * Da ≤ M * Na → M * Nb ≤ (Pb + 1) * Db → p * B ≤ M * q → M ≤ c * B → Pa + p ≤ Pb + (2 * c + 1)
down_step M B q c Da Db Na Nb Pa Pb p pos h ha hb hp hc =
    le_of_mul-le-mul_left (fin (mul-le-mul_left M h) (mul-le-mul_left (B * Db) ha) (mul-le-mul_left (B * Da) hb) (mul-le-mul_left (Da * Db) hp) (mul-le-mul_left (2 * (Da * Db)) hc)) pos
  where
    fin : M * (B * (Na * Db) + q * (Da * Db)) ≤ M * (B * (Nb * Da) + 2 * (Da * Db)) → B * Db * (Pa * Da) ≤ B * Db * (M * Na) → B * Da * (M * Nb) ≤ B * Da * ((Pb + 1) * Db) → Da * Db * (p * B) ≤ Da * Db * (M * q) → 2 * (Da * Db) * M ≤ 2 * (Da * Db) * (c * B) →
        B * (Da * Db) * (Pa + p) ≤ B * (Da * Db) * (Pb + (2 * c + 1))
    fin h₁ h₂ h₃ h₄ h₅ = omega arith

neighbours_up : (n x q : ℕ) → x + 1 ≤ q → 0 < q → (x * x + q * q) * (euler_sum n (x + 1) q * euler_denominator n x q) ≤ (x * x + q * q) * (euler_sum n x q * euler_denominator n (x + 1) q) + (q + 1) * (euler_denominator n x q * euler_denominator n (x + 1) q)
neighbours_up n x q h pos = go ((x * x + q * q)) (euler_sum n (x + 1) q) (euler_sum n x q) (euler_denominator n x q) (euler_denominator n (x + 1) q) (at_most_one (x + 1) q n h (big x)) (law_up n x 1 q (fits x h))
  where
    fits : (x : ℕ) → x + 1 ≤ q → x * (x + 1) ≤ q * q
    fits x h = le_trans (mul-le-mul_right (x + 1) (omega arith)) (mul-le-mul h h)

    big : (x : ℕ) → 0 < (x + 1) * (x + 1) + q * q
    big x = omega arith

    go : (A N M Da Db : ℕ) → N ≤ Db → A * (N * Da) ≤ A * (M * Db) + 1 * 1 * (N * Da) + 1 * q * (Da * Db) → A * (N * Da) ≤ A * (M * Db) + (q + 1) * (Da * Db)
    go A N M Da Db k h = omega (arith, mul-le-mul_right Da k)

neighbours_down : (n x q : ℕ) → x + 1 ≤ q → q * ev n ≤ 2 ^ n * od n → ((x + 1) * (x + 1) + q * q) * (euler_sum n x q * euler_denominator n (x + 1) q) + q * (euler_denominator n x q * euler_denominator n (x + 1) q) ≤ ((x + 1) * (x + 1) + q * q) * (euler_sum n (x + 1) q * euler_denominator n x q) + 2 * (euler_denominator n x q * euler_denominator n (x + 1) q)
neighbours_down n x q h r =
    go ((x + 1) * (x + 1) + q * q) (euler_sum n (x + 1) q) (euler_sum n x q) (euler_denominator n x q) (euler_denominator n (x + 1) q) (ev n * (x * x) ^ n) (at_most_one x q n (omega arith) (big x h)) (tail n q x q (omega arith) r) (law_down n x 1 q (fits x h))
  where
    fits : (x : ℕ) → x + 1 ≤ q → x * (x + 1) ≤ q * q
    fits x h = le_trans (mul-le-mul_right (x + 1) (omega arith)) (mul-le-mul h h)

    big : (x : ℕ) → x + 1 ≤ q → 0 < x * x + q * q
    big x h = omega (arith, mul-le-mul {n₁ = 1} {m₁ = 1} {n₂ = q} {m₂ = q} (omega arith) (omega arith))

    go : (B N M Da Db e : ℕ) → M ≤ Da → q * e ≤ Da → B * (M * Db) + 1 * q * (Da * Db) ≤ B * (N * Da) + 1 * 1 * (M * Db) + 1 * q * (e * Db) → B * (M * Db) + q * (Da * Db) ≤ B * (N * Da) + 2 * (Da * Db)
    go B N M Da Db e k l h = omega (arith, mul-le-mul_right Db k, mul-le-mul_right Db l)

-- ---- on the grid of 1 / q, as a whole number of 1 / M
floor_le : (a b : ℕ) → a / b * b ≤ a
floor_le a b = div-mul-le_self a b

floor_lt : (a b : ℕ) → 0 < b → a ≤ (a / b + 1) * b
floor_lt a b h = omega (arith, lt-div-mul-add {a = a} {b = b} h)

module _ (n q M c c' : ℕ) (pos : 0 < q) (terms : q * ev n ≤ 2 ^ n * od n) (cm : M ≤ c * (q * q)) (cm' : M * q ≤ c' * (q * q * (q * q))) where
  unfoldable pub arc : ℕ → ℕ
  arc x = M * euler_sum n x q / euler_denominator n x q

  unfoldable pub lean : ℕ → ℕ
  lean x = M * q / (x * x + q * q)

  fit : (x : ℕ) → M ≤ c * (x * x + q * q)
  fit x = omega arith

  fit' : (a b : ℕ) → q * q ≤ a → q * q ≤ b → M * q ≤ c' * (a * b)
  fit' a b h k = le_trans cm' (mul-le-mul_left c' (mul-le-mul h k))

  wider : (x : ℕ) → x * x + q * q ≤ (x + 1) * (x + 1) + q * q
  wider x = omega arith

  lean_falls : (x : ℕ) → lean (x + 1) ≤ lean x
  unfolding lean
  lean_falls x = div_mono (M * q) ((x + 1) * (x + 1) + q * q) (M * q) (x * x + q * q) (squares_pos (x + 1) pos) (squares_pos x pos) (mul-le-mul_left (M * q) (wider x))

  lean_near : (x : ℕ) → x ≤ q → lean x ≤ lean (x + 1) + (c + c' + 1)
  unfolding lean
  lean_near x h =
      le_of_mul-le-mul_right {k = (x * x + q * q) * ((x + 1) * (x + 1) + q * q)}
      (go (x * x + q * q) ((x + 1) * (x + 1) + q * q) (M * q / (x * x + q * q)) (M * q / ((x + 1) * (x + 1) + q * q)) (floor_le (M * q) (x * x + q * q)) (floor_lt (M * q) ((x + 1) * (x + 1) + q * q) (squares_pos (x + 1) pos)) (gap x h)
      (both (x * x + q * q) ((x + 1) * (x + 1) + q * q) (fit (x + 1)) (fit' (x * x + q * q) ((x + 1) * (x + 1) + q * q) (omega arith) (omega arith))))
      (mul-pos (squares_pos x pos) (squares_pos (x + 1) pos))
    where
      gap : (x : ℕ) → x ≤ q → q * ((x + 1) * (x + 1) + q * q) ≤ q * (x * x + q * q) + (x * x + q * q) + q
      gap x h = omega (arith, cauchy x q h)

      both : (A B : ℕ) → M ≤ c * B → M * q ≤ c' * (A * B) → M * (A + q) ≤ (c + c') * (A * B)
      both A B h k = omega (arith, mul-le-mul_right A h)

      go : (A B l r : ℕ) → l * A ≤ M * q → M * q ≤ (r + 1) * B → q * B ≤ q * A + A + q → M * (A + q) ≤ (c + c') * (A * B) → l * (A * B) ≤ (r + (c + c' + 1)) * (A * B)
      go A B l r h k g m = omega (arith, mul-le-mul_right B h, mul-le-mul_right A k, mul-le-mul_left M g)

  arc_up : (x : ℕ) → x + 1 ≤ q → arc (x + 1) ≤ arc x + lean x + (c + 2)
  unfolding arc lean
  arc_up x h =
      up_step M (x * x + q * q) q c (euler_denominator n x q) (euler_denominator n (x + 1) q) (euler_sum n x q) (euler_sum n (x + 1) q) (M * euler_sum n x q / euler_denominator n x q) (M * euler_sum n (x + 1) q / euler_denominator n (x + 1) q) (M * q / (x * x + q * q))
      (mul-pos (squares_pos x pos) (mul-pos (den_pos n x q pos) (den_pos n (x + 1) q pos))) (neighbours_up n x q h pos) (floor_le _ (euler_denominator n (x + 1) q)) (floor_lt _ (euler_denominator n x q) (den_pos n x q pos)) (floor_lt _ (x * x + q * q) (squares_pos x pos)) (fit x)

  arc_down : (x : ℕ) → x + 1 ≤ q → arc x + lean (x + 1) ≤ arc (x + 1) + (2 * c + 1)
  unfolding arc lean
  arc_down x h =
      down_step M ((x + 1) * (x + 1) + q * q) q c (euler_denominator n x q) (euler_denominator n (x + 1) q) (euler_sum n x q) (euler_sum n (x + 1) q) (M * euler_sum n x q / euler_denominator n x q) (M * euler_sum n (x + 1) q / euler_denominator n (x + 1) q) (M * q / ((x + 1) * (x + 1) + q * q))
      (mul-pos (squares_pos (x + 1) pos) (mul-pos (den_pos n x q pos) (den_pos n (x + 1) q pos))) (neighbours_down n x q h terms) (floor_le _ (euler_denominator n x q)) (floor_lt _ (euler_denominator n (x + 1) q) (den_pos n (x + 1) q pos)) (floor_le _ ((x + 1) * (x + 1) + q * q)) (fit (x + 1))

  pub arc_sloped : Sloped arc (λ x. 0) lean (λ x. 0) (3 * c + c' + 2) (c + c' + 1) q
  arc_sloped = record {
    up = λ x h. rw (← (add-one x)) (omega (arith, arc_up x (omega arith)));
    down = λ x h. rw (← (add-one x)) (omega (arith, arc_down x (omega arith), lean_near x (omega arith)));
    steeper = λ x h. rw (← (add-one x)) (omega (arith, lean_falls x));
    flatter = λ x h. rw (← (add-one x)) (omega (arith, lean_near x (omega arith)));
  }
