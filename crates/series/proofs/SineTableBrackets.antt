-- Sine and cosine by the table, at every y / 2^41 up to 16: each sum of 33 or more terms lies within 2^-20 of the result (m - m') / 2^24.
use mathlib.Core.Path.{◌≡◌, refl, subst}
use Prim.Native.Nat.{ℕ, suc, ◌+◌, ◌*◌, ◌^◌, ◌/◌, ◌%◌, ◌≤◌}
use native.Mathlib.Nat.{mul-le-mul_left, mul-le-mul_right, le_trans, pow-le-pow_left}
use native.Mathlib.Omega.{arith}
use lib.Dec.{lit≤}
use Rattle.series.specs.Tables.{sines}
use Rattle.series.specs.Series.{step, denominator, sin_term, cos_term, added, taken}
use Rattle.series.proofs.SinePolynomials.{whole, grid, a, b, c, d}
use Rattle.series.proofs.SineNodes.{above, below}
use Rattle.series.specs.Interpolation.{Line}
use Rattle.series.proofs.SineTable.{Close, turned, sine_close, cosine_close}
use Rattle.series.proofs.SineTerms.{same_den, sine_up, sine_down, cosine_up, cosine_down}
use Rattle.series.proofs.AlternatingSums.{AtLeast, AtMost, Bracketed, bracketed, least_all, most_all, sin_fades, cos_fades, fading, faster}

first_low : (K U D E w x y m m' : ℕ) → U ≡ K * x → D ≡ K * y → E ≡ K * w → 2 ^ 24 * y + m * w ≤ 2 ^ 24 * x + (m' + 10) * w → 2 ^ 24 * D + m * E ≤ 2 ^ 24 * U + (m' + 16) * E
first_low K U D E w x y m m' u d e h = rw (u, d, e) (omega (arith, mul-le-mul_left K h))

-- 33 terms: one more, which is at most 2^-24
first_high : (K U D E w x y m m' i t : ℕ) → U ≡ K * x → D ≡ K * y → E ≡ K * w → 2 ^ 24 * x + m' * w ≤ 2 ^ 24 * y + (m + 10) * w → 2 ^ 24 * t ≤ E * i → 2 ^ 24 * (U * i + t) + m' * (E * i) ≤ 2 ^ 24 * (D * i + 0) + (m + 16) * (E * i)
first_high K U D E w x y m m' i t u d e h k = fin (subst (λ (z : ℕ). 2 ^ 24 * t ≤ z * i) e k)
  where
    fin : 2 ^ 24 * t ≤ K * w * i → 2 ^ 24 * (U * i + t) + m' * (E * i) ≤ 2 ^ 24 * (D * i + 0) + (m + 16) * (E * i)
    fin k = rw (u, d, e) (omega (arith, mul-le-mul_left (K * i) h))

sine_last : 2 ^ 24 * ((2 ^ 45) ^ 65 * (grid * 66)) ≤ denominator 32 grid * step 32 grid
sine_last = lit≤ tt

cosine_last : 2 ^ 24 * ((2 ^ 45) ^ 64 * step 32 grid) ≤ denominator 32 grid * step 32 grid
cosine_last = lit≤ tt

term_small : (y k w E : ℕ) → y ≤ 2 ^ 45 → 2 ^ 24 * ((2 ^ 45) ^ k * w) ≤ E → 2 ^ 24 * (y ^ k * w) ≤ E
term_small y k w E h l = le_trans (mul-le-mul_left (2 ^ 24) (mul-le-mul_right w (pow-le-pow_left h k))) l

module _ (y m m' : ℕ) (h : y ≤ 2 ^ 45) where
  fit : y ≤ 16 * grid
  fit = omega arith

  fades : (n : ℕ) → 8 ≤ n → y * y ≤ step n grid
  fades n l = fading 16 y grid n 8 fit l (lit≤ tt)

  ends : (term : ℕ → ℕ → ℕ → ℕ) (f g : ℕ) → ((n : ℕ) → y * y ≤ step n grid → term (suc n) y grid ≤ term n y grid * step (suc n) grid) → added term 32 y grid ≡ 64 * grid * f → taken term 32 y grid ≡ 64 * grid * g →
      2 ^ 24 * term 32 y grid ≤ denominator 32 grid * step 32 grid → Close whole f g m m' → Bracketed term (2 ^ 24) m (m' + 16) m' (m + 16) y grid
  unfolding AtLeast AtMost
  ends term f g fade u d last c =
      bracketed term (2 ^ 24) m (m' + 16) m' (m + 16) y grid
      (least_all term y grid 32 (λ n l. fade n (fades n (le_trans (lit≤ tt) l))) (2 ^ 24) m (m' + 16) refl (first_low (64 * grid) (added term 32 y grid) (taken term 32 y grid) (denominator 32 grid) whole f g m m' u d same_den c.low))
      (most_all term y grid 33 (λ n l. fade n (fades n (le_trans (lit≤ tt) l))) (2 ^ 24) m' (m + 16) refl (first_high (64 * grid) (added term 32 y grid) (taken term 32 y grid) (denominator 32 grid) whole f g m m' (step 32 grid) (term 32 y grid) u d same_den c.high last))

  pub sine_within : let q = turned y in let s = q / 65536 in
      Line 65536 (q % 65536) (above sines (s % 4096)) (below sines (s % 4096)) (above sines (suc s % 4096)) (below sines (suc s % 4096)) m m' → Bracketed sin_term (2 ^ 24) m (m' + 16) m' (m + 16) y grid
  sine_within l = ends sin_term (b y) (d y) (λ n f. sin_fades n y grid (faster n y grid f)) (sine_up y) (sine_down y) (term_small y 65 (grid * 66) (denominator 32 grid * step 32 grid) h sine_last) (sine_close y h m m' l)

  pub cosine_within : let q = turned y in let s = q / 65536 in
      Line 65536 (q % 65536) (above sines ((s + 1024) % 4096)) (below sines ((s + 1024) % 4096)) (above sines ((suc s + 1024) % 4096)) (below sines ((suc s + 1024) % 4096)) m m' → Bracketed cos_term (2 ^ 24) m (m' + 16) m' (m + 16) y grid
  cosine_within l = ends cos_term (a y) (c y) (λ n f. cos_fades n y grid f) (cosine_up y) (cosine_down y) (term_small y 64 (step 32 grid) (denominator 32 grid * step 32 grid) h cosine_last) (cosine_close y h m m' l)
