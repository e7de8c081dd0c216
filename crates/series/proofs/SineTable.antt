-- Sine and cosine by the table, up to 16: the result is within 10 · 2^-24 of the sum of 32 terms at the argument itself, which is y / 2^41.
use mathlib.Core.Path.{◌≡◌, refl, subst}
use Prim.Native.Nat.{ℕ, suc, ◌+◌, ◌-◌, ◌*◌, ◌^◌, ◌/◌, ◌%◌, ◌≤◌, ◌<◌}
use native.Mathlib.Nat.{mul-le-mul_left, mul-le-mul_right, le_trans, le_of_mul-le-mul_left, le_of_lt, div-add-mod', mod-lt}
use native.Mathlib.Omega.{arith}
use lib.Dec.{lit<}
use Rattle.series.specs.Tables.{sines}
use Rattle.series.proofs.Numbers.{swap_sums}
use Rattle.series.specs.Interpolation.{Sloped, Bounded, At, Line}
use Rattle.series.proofs.Chord.{climbs, falls}
use Rattle.series.proofs.Interpolation.{interpolation}
use Rattle.series.proofs.SinePolynomials.{whole, slack, grid, reach, table_step, a, b, c, d}
use Rattle.series.proofs.SineNodes.{Near, both, above, below}
use Rattle.series.proofs.SineNodesPass.{passed}
use Rattle.series.proofs.SineSlope.{most, bend, bounded, sine_sloped, cosine_sloped, sags, steps, floors, whole_pos}

-- the program's numbers: k = ⌊|a| 2^24⌋ and q = ⌊k 2^33 / 3373259426⌋, whose high part is the step and whose low part the fraction
abbrev pub turned : ℕ → ℕ
turned y = y / 2 ^ 17 * 2 ^ 33 / 3373259426

-- (m - m') / 2^24 is within 10 · 2^-24 of (f - g) / w; 2^-20 would be 16
pub record Close (w f g m m' : ℕ) : Type 0 where
  pub high : 2 ^ 24 * f + m' * w ≤ 2 ^ 24 * g + (m + 10) * w
  pub low : 2 ^ 24 * g + m * w ≤ 2 ^ 24 * f + (m' + 10) * w

scale : (D w f g p n : ℕ) → Near w f g p n → At (2 ^ 30) (D * w) 4 (D * f) (D * g) p n
scale D w f g p n h = record { high = go (2 ^ 30) f g p n h.high; low = go (2 ^ 30) g f n p h.low }
  where
    go : (R f g p n : ℕ) → R * f + n * w ≤ R * g + (p + 4) * w → R * (D * f) + n * (D * w) ≤ R * (D * g) + (p + 4) * (D * w)
    go R f g p n h = omega (arith, mul-le-mul_left D h)

-- from 501 units at x and 81 for the floor to 640 at y, and D cancelled
close_up : (D w G x y x' y' m m' : ℕ) → 0 < D → 2 ^ 30 * (D * x) + 64 * m' * (D * w) ≤ 2 ^ 30 * (D * x') + (64 * m + (4 + 400 + 32 + 65)) * (D * w) → D * y + D * x' ≤ D * x + D * y' + G → 2 ^ 30 * G ≤ 81 * (D * w) →
    2 ^ 24 * y + m' * w ≤ 2 ^ 24 * y' + (m + 10) * w
close_up D w G x y x' y' m m' pos h k g = le_of_mul-le-mul_left {k = 64 * D} (go (D * w) refl) (omega arith)
  where
    go : (U : ℕ) → D * w ≡ U → 64 * D * (2 ^ 24 * y + m' * w) ≤ 64 * D * (2 ^ 24 * y' + (m + 10) * w)
    go U e = omega arith

-- the numbers of a lookup: y = s H + u + j, with u / H from f / 65536 on
record Cut (y s f j : ℕ) : Type 0 where
  u : ℕ
  under : u ≤ table_step
  step : s ≤ 10430
  least : f * table_step ≤ u * 65536
  most : u * 65536 ≤ f * table_step + table_step
  floor : j ≤ 2 ^ 17
  inside : s * table_step + u + j ≤ reach
  whole_is : s * table_step + u + j ≡ y

cut : (y k j q rest s f : ℕ) → y ≤ 2 ^ 45 → k * 2 ^ 17 + j ≡ y → j < 2 ^ 17 → q * 3373259426 + rest ≡ k * 2 ^ 33 → rest < 3373259426 → s * 65536 + f ≡ q → f < 65536 → Cut y s f j
cut y k j q rest s f h e j< e₁ r< e₂ f< =
    record {
      u = u;
      under = omega arith;
      step = omega arith;
      least = omega arith;
      most = omega arith;
      floor = omega arith;
      inside = omega arith;
      whole_is = omega arith;
    }
  where
    u : ℕ
    u = k * 2 ^ 17 - s * 3373259426

module _ (f g p n : ℕ → ℕ) (sl : Sloped (λ x. grid * f x) (λ x. grid * g x) p n (2 * slack) bend reach) (bound : Bounded p n most reach)
    (tp tn : ℕ → ℕ) (nodes : (s : ℕ) → s < 10440 → Near whole (f (s * table_step)) (g (s * table_step)) (tp s) (tn s)) where
  close_at : (s u φ j m m' : ℕ) → u ≤ table_step → s ≤ 10430 → φ * table_step ≤ u * 65536 → u * 65536 ≤ φ * table_step + table_step → j ≤ 2 ^ 17 → s * table_step + u + j ≤ reach →
      Line 65536 φ (tp s) (tn s) (tp (suc s)) (tn (suc s)) m m' → Close whole (f (s * table_step + u + j)) (g (s * table_step + u + j)) m m'
  close_at s u φ j m m' u≤ s≤ lo hi j≤ r t =
      let l = s * table_step in
      let node₀ = scale grid whole (f l) (g l) (tp s) (tn s) (nodes s (omega arith)) in
      let there : suc s * table_step ≡ l + table_step = next s in
      let node₁ = subst (λ (z : ℕ). At (2 ^ 30) (grid * whole) 4 (grid * f z) (grid * g z) (tp (suc s)) (tn (suc s))) there (scale grid whole (f (suc s * table_step)) (g (suc s * table_step)) (tp (suc s)) (tn (suc s)) (nodes (suc s) (omega arith))) in
      let inside : l + table_step ≤ reach = subst (λ (z : ℕ). z ≤ reach) there (fits s s≤) in
      let R = interpolation (λ x. grid * f x) (λ x. grid * g x) p n (2 * slack) bend reach most (2 ^ 30) (grid * whole) 4 400 32 65536 table_step sl bound (lit< tt) whole_pos (lit< tt) sags steps l u φ (tp s) (tn s) (tp (suc s)) (tn (suc s)) m m' u≤ inside lo hi node₀ node₁ t in
      let G = j * (most + 2 * slack) in
      let G≤ : 2 ^ 30 * G ≤ 81 * (grid * whole) = le_trans (mul-le-mul_left (2 ^ 30) (mul-le-mul_right (most + 2 * slack) j≤)) floors in
      let up = climbs (λ x. grid * f x) (λ x. grid * g x) p n (2 * slack) bend reach sl most bound.rises (l + u) j r in
      let dn = falls (λ x. grid * f x) (λ x. grid * g x) p n (2 * slack) bend reach sl most bound.sinks (l + u) j r in
      let w = l + u in
      record {
        high = close_up grid whole G (f w) (f (w + j)) (g w) (g (w + j)) m m' (lit< tt) R.high up G≤;
        low = close_up grid whole G (g w) (g (w + j)) (f w) (f (w + j)) m' m (lit< tt) R.low (swap_sums (grid * f w) (grid * g (w + j)) (grid * f (w + j)) (grid * g w) G dn) G≤;
      }
    where
      next : (s : ℕ) → suc s * 3373259426 ≡ s * 3373259426 + 3373259426
      next s = omega arith

      fits : (s : ℕ) → s ≤ 10430 → suc s * 3373259426 ≤ reach
      fits s h = omega arith

  pub close : (y : ℕ) → y ≤ 2 ^ 45 → (m m' : ℕ) → Line 65536 (turned y % 65536) (tp (turned y / 65536)) (tn (turned y / 65536)) (tp (suc (turned y / 65536))) (tn (suc (turned y / 65536))) m m' → Close whole (f y) (g y) m m'
  close y h m m' t =
      let k = y / 2 ^ 17 in
      let q = turned y in
      let N = cut y k (y % 2 ^ 17) q (k * 2 ^ 33 % 3373259426) (q / 65536) (q % 65536) h (div-add-mod' y (2 ^ 17)) (mod-lt y (lit< tt)) (div-add-mod' (k * 2 ^ 33) 3373259426) (mod-lt (k * 2 ^ 33) (lit< tt)) (div-add-mod' q 65536) (mod-lt q (lit< tt)) in
      subst (λ (z : ℕ). Close whole (f z) (g z) m m') N.whole_is
      (close_at (q / 65536) N.u (q % 65536) (y % 2 ^ 17) m m' N.under N.step N.least N.most N.floor N.inside t)

pub sine_close : (y : ℕ) → y ≤ 2 ^ 45 → (m m' : ℕ) → let q = turned y in let s = q / 65536 in
    Line 65536 (q % 65536) (above sines (s % 4096)) (below sines (s % 4096)) (above sines (suc s % 4096)) (below sines (suc s % 4096)) m m' → Close whole (b y) (d y) m m'
sine_close = close b d a c sine_sloped (record { rises = λ x h. (bounded x (le_of_lt h)).ac; sinks = λ x h. (bounded x (le_of_lt h)).ca }) (λ s. above sines (s % 4096)) (λ s. below sines (s % 4096)) (λ s h. (both s (passed s h)).sine)

pub cosine_close : (y : ℕ) → y ≤ 2 ^ 45 → (m m' : ℕ) → let q = turned y in let s = q / 65536 in
    Line 65536 (q % 65536) (above sines ((s + 1024) % 4096)) (below sines ((s + 1024) % 4096)) (above sines ((suc s + 1024) % 4096)) (below sines ((suc s + 1024) % 4096)) m m' → Close whole (a y) (c y) m m'
cosine_close = close a c d b cosine_sloped (record { rises = λ x h. (bounded x (le_of_lt h)).db; sinks = λ x h. (bounded x (le_of_lt h)).bd }) (λ s. above sines ((s + 1024) % 4096)) (λ s. below sines ((s + 1024) % 4096)) (λ s h. (both s (passed s h)).cosine)
