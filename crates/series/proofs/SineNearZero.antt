-- Near zero: for p / q at most 1 the sine's ends lie between x - x³/6 and x, and the cosine's between 1 - x²/2 and 1 - x²/2 + x⁴/24.
use mathlib.Core.Path.{◌≡◌, refl}
use Prim.Native.Nat.{ℕ, ◌+◌, ◌*◌, ◌^◌, ◌≤◌}
use native.Mathlib.Nat.{pow-zero, pow-suc}
use native.Mathlib.Omega.{arith}
use lib.Dec.{lit≤}
use Rattle.series.specs.Series.{step, sin_term, cos_term}
use Rattle.series.proofs.AlternatingSums.{AtLeast, AtMost, pairs, least_all, most_all, sin_fades, cos_fades, fading, faster}

-- small powers
power_1 : (x : ℕ) → x ^ 1 ≡ x
power_1 x = rw (pow-suc x 0, pow-zero x) (omega arith)

power_2 : (x : ℕ) → x ^ 2 ≡ x * x
power_2 x = rw (pow-suc x 1, power_1 x)

power_3 : (x : ℕ) → x ^ 3 ≡ x * x * x
power_3 x = rw (pow-suc x 2, power_2 x)

power_4 : (x : ℕ) → x ^ 4 ≡ x * x * (x * x)
power_4 x = rw (pow-suc x 3, power_3 x) (omega arith)

fades : (p q n : ℕ) → p ≤ q → p * p ≤ step n q
fades p q n h = fading 1 p q n 0 (omega arith) (omega arith) (lit≤ tt)

sine_2 : (p q : ℕ) → AtLeast sin_term (6 * (q * q * q)) (6 * (p * q * q)) (p * p * p) 2 p q
unfolding AtLeast
sine_2 p q = rw (power_3 p, power_1 p) (omega arith)

sine_1 : (p q : ℕ) → AtMost sin_term q 0 p 1 p q
unfolding AtMost
sine_1 p q = rw (power_1 p) (omega arith)

cosine_2 : (p q : ℕ) → AtLeast cos_term (2 * (q * q)) (2 * (q * q)) (p * p) 2 p q
unfolding AtLeast
cosine_2 p q = rw (power_2 p, pow-zero p) (omega arith)

cosine_3 : (p q : ℕ) → AtMost cos_term (24 * (q * q * (q * q))) (12 * (p * p * (q * q))) (24 * (q * q * (q * q)) + p * p * (p * p)) 3 p q
unfolding AtMost
cosine_3 p q = go (p ^ 0) (p ^ 2) (p ^ 4) (pow-zero p) (power_2 p) (power_4 p) (p * p) (q * q) (q * q * (5 * 6)) refl refl
  where
    go : (a b c : ℕ) → a ≡ 1 → b ≡ p * p → c ≡ p * p * (p * p) → (P Q z : ℕ) → p * p ≡ P → q * q ≡ Q →
        24 * (Q * Q) * (((0 * (Q * (1 * 2)) + a * (Q * (1 * 2))) * (Q * (3 * 4)) + 0) * z + c * z) + 12 * (P * Q) * (1 * (Q * (1 * 2)) * (Q * (3 * 4)) * z) ≤
        24 * (Q * Q) * (((0 * (Q * (1 * 2)) + 0) * (Q * (3 * 4)) + b * (Q * (3 * 4))) * z + 0) + (24 * (Q * Q) + P * P) * (1 * (Q * (1 * 2)) * (Q * (3 * 4)) * z)
    go a b c x y w P Q z e f = rw (x, y, w, e) (omega arith)

module _ (p q : ℕ) (h : p ≤ q) (i : ℕ) where
  pub sine_least : AtLeast sin_term (6 * (q * q * q)) (6 * (p * q * q)) (p * p * p) (pairs 2 i) p q
  sine_least = least_all sin_term p q 2 (λ n l. sin_fades n p q (faster n p q (fades p q n h))) (6 * (q * q * q)) (6 * (p * q * q)) (p * p * p) refl (sine_2 p q) i

  pub sine_most : AtMost sin_term q 0 p (pairs 1 i) p q
  sine_most = most_all sin_term p q 1 (λ n l. sin_fades n p q (faster n p q (fades p q n h))) q 0 p refl (sine_1 p q) i

  pub cosine_least : AtLeast cos_term (2 * (q * q)) (2 * (q * q)) (p * p) (pairs 2 i) p q
  cosine_least = least_all cos_term p q 2 (λ n l. cos_fades n p q (fades p q n h)) (2 * (q * q)) (2 * (q * q)) (p * p) refl (cosine_2 p q) i

  pub cosine_most : AtMost cos_term (24 * (q * q * (q * q))) (12 * (p * p * (q * q))) (24 * (q * q * (q * q)) + p * p * (p * p)) (pairs 3 i) p q
  cosine_most = most_all cos_term p q 3 (λ n l. cos_fades n p q (fades p q n h)) (24 * (q * q * (q * q))) (12 * (p * p * (q * q))) (24 * (q * q * (q * q)) + p * p * (p * p)) refl (cosine_3 p q) i
