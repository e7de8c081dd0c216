-- Sine and cosine by the table lie within 2^-20 of the exact value, for sizes from 2^-6 to 16.
use Rattle.std.proofs.Common.{◌≡◌, ℕ, suc, ◌+◌, ◌*◌, ◌/◌, ◌%◌, ◌^◌, ◌<◌, ◌≤◌, Bool, false, cond, T, ℤ, pos, negsuc, sym, ap, ◌∙◌, subst, le_trans, le_of_lt, mod-lt, mul-le-mul_left, arith, lit<, lit≤, pow_pos, ltb-false}
use lib.Ieee.{Float, fin, binary32, up, down, lt, le, fits, of_bits}
use lib.Ieee.Fits.{down_pos}
use lib.Ieee.Nearest.{div_same}
use Rattle.laws.proofs.Place.{fit_of, multiple}
use Rattle.series.specs.Tables.{sines}
use Rattle.series.specs.Series.{sin_term, cos_term}
use Rattle.series.proofs.SinePolynomials.{grid}
use Rattle.series.proofs.SineNodes.{above, below}
use Rattle.series.specs.Interpolation.{Line}
use Rattle.series.proofs.SineTable.{turned}
use Rattle.series.proofs.SineTableBrackets.{sine_within, cosine_within}
use Rattle.series.proofs.AlternatingSums.{Bracketed, bracketed_same, sin_scales, cos_scales}
use Rattle.trig.specs.Interpolation.{over_unit}
use Rattle.trig.specs.Sine.{scaled_of, phase_of, step_of, fraction_of, table_sine, sixteen, sixty_fourth}
use Rattle.trig.specs.Accuracy.{SumsWithin}
use Rattle.trig.specs.Parts.{signed}
use Rattle.trig.proofs.ScaledFloor.{scaled_is, at_most_16}
use Rattle.trig.proofs.InterpolatedSizes.{line_size, line_signed, line_small}
use Rattle.trig.proofs.WholeOverUnit.{whole_value}
use Rattle.trig.proofs.CarriedNeighbours.{sided, line_of}
use Rattle.trig.proofs.NearValue.{sums_within}

-- ---- the size as a number of 2^-41: y = C p, where C q = 2^41
pub at_least : (m : ℕ) (e : ℤ) → lt (fin false m e) sixty_fourth ≡ false → down e ≤ m * up e * 64
unfolding lt of_bits
at_least m e h = go (m * up e) (down e) (ltb-false (m * up e * 2 ^ 6) (1 * 1 * down e) h)
  where
    go : (a d : ℕ) → 1 * 1 * d ≤ a * 2 ^ 6 → d ≤ a * 64
    go a d h = omega arith

record OnGrid (e : ℤ) : Type 0 where
  C : ℕ
  positive : 0 < C
  is : C * down e ≡ grid

on_grid : (m : ℕ) (e : ℤ) → T (fits binary32 (fin false m e)) → down e ≤ m * up e * 64 → OnGrid e
on_grid m e f h = let j = multiple e 41 (fine e h) in record { C = 2 ^ j.0; positive = pow_pos j.0; is = sym j.1 }
  where
    fine : (e : ℤ) → down e ≤ m * up e * 64 → down e ≤ 2 ^ 41
    fine (pos k) h = lit≤ tt
    fine (negsuc k) h = le_trans h (few m (fit_of binary32 false m e f).0)
      where
        few : (n : ℕ) → n < 2 ^ 24 → n * 1 * 64 ≤ 2 ^ 41
        few n h = omega arith

-- ---- from a bracket on the grid to the float
module _ (term : ℕ → ℕ → ℕ → ℕ) (scales : (C n p q : ℕ) → term n (C * p) (C * q) ≡ (C * C) ^ n * (C * C) * term n p q) (C p q : ℕ) (pos : 0 < C) (is : C * q ≡ grid) where
  whole_within : (b : Bool) (m : ℕ) → m ≤ 2 ^ 24 → Bracketed term (2 ^ 24) (cond b 0 m) (cond b m 0 + 16) (cond b m 0) (cond b 0 m + 16) (C * p) grid → SumsWithin term p q (over_unit (signed b m))
  whole_within b m h k =
      let w = whole_value b m h in
      let B = bracketed_same term scales C p q pos (2 ^ 24) (cond b 0 m) (cond b m 0 + 16) (cond b m 0) (cond b 0 m + 16) (subst (λ (g : ℕ). Bracketed term (2 ^ 24) (cond b 0 m) (cond b m 0 + 16) (cond b m 0) (cond b 0 m + 16) (C * p) g) (sym is) k) in
      sums_within term p q (2 ^ 24) (cond b 0 m) (cond b m 0 + 16) (cond b m 0) (cond b 0 m + 16) (over_unit (signed b m)) w.t m (2 ^ 24) (lit< tt) (lit< tt) w.value B
      (record { low = go (cond w.t 0 m) (cond w.t m 0) (cond b 0 m) (cond b m 0) w.plus w.minus; high = go (cond w.t m 0) (cond w.t 0 m) (cond b m 0) (cond b 0 m) w.minus w.plus })
    where
      go : (x y u v : ℕ) → x ≡ u → y ≡ v → 2 ^ 20 * x * 2 ^ 24 + (v + 16) * (2 ^ 20 * 2 ^ 24) ≤ u * (2 ^ 20 * 2 ^ 24) + (2 ^ 20 * y + 2 ^ 24) * 2 ^ 24
      go x y u v e f = omega arith

-- ---- the wave from a step on, as a whole number
wave_size : (n q : ℕ) → let s = sided n in let m = line_size 65536 s.t s.u (q % 65536) in table_sine n (q % 65536) ≡ over_unit (signed s.b m)
unfolding table_sine
wave_size n q = let s = sided n in rw (s.here, s.next, line_signed s.b 65536 s.t s.u (q % 65536) (lit< tt) (le_of_lt (mod-lt q (lit< tt))))

module _ (m : ℕ) (e : ℤ) (f : T (fits binary32 (fin false m e))) (h : T (le (fin false m e) sixteen)) (l : lt (fin false m e) sixty_fourth ≡ false) where
  -- the numbers of the lookup
  g : OnGrid e
  g = on_grid m e f (at_least m e l)

  abbrev y : ℕ
  y = g.C * (m * up e)

  abbrev turn : ℕ
  turn = phase_of (scaled_of (fin false m e))

  y_fits : y ≤ 2 ^ 45
  y_fits = go g.C (m * up e) (down e) (at_most_16 m e h) g.is
    where
      go : (C p q : ℕ) → p ≤ 16 * q → C * q ≡ 2 ^ 41 → C * p ≤ 2 ^ 45
      go C p q h e = omega (arith, mul-le-mul_left C h)

  same_turn : turned y ≡ turn
  same_turn = ap phase_of (div_same (g.C * (m * up e)) (2 ^ 17) (m * up e * 2 ^ 24) (down e) (lit< tt) (down_pos e) (go g.C (m * up e) (down e) g.is) ∙ sym (scaled_is m e f h))
    where
      go : (C p q : ℕ) → C * q ≡ 2 ^ 41 → C * p * q ≡ p * 2 ^ 24 * 2 ^ 17
      go C p q e = omega (arith, ap (λ (z : ℕ). p * z) e)

  size_at : ℕ → ℕ
  size_at n = line_size 65536 (sided n).t (sided n).u (turn % 65536)

  small_at : (n : ℕ) → size_at n ≤ 2 ^ 24
  unfolding size_at
  small_at n = line_small (sided n).t (sided n).u (turn % 65536) (sided n).low (sided n).low' (mod-lt turn (lit< tt))

  line_at : (n i j : ℕ) → n % 4096 ≡ i → (n + 1) % 4096 ≡ j → Line 65536 (turn % 65536) (above sines i) (below sines i) (above sines j) (below sines j) (cond (sided n).b 0 (size_at n)) (cond (sided n).b (size_at n) 0)
  unfolding size_at
  line_at n i j a b =
      subst (λ (x : ℕ). Line 65536 (turn % 65536) (above sines x) (below sines x) (above sines j) (below sines j) (cond (sided n).b 0 (size_at n)) (cond (sided n).b (size_at n) 0)) a
      (subst (λ (x : ℕ). Line 65536 (turn % 65536) (above sines (n % 4096)) (below sines (n % 4096)) (above sines x) (below sines x) (cond (sided n).b 0 (size_at n)) (cond (sided n).b (size_at n) 0)) b (line_of n (turn % 65536) (mod-lt turn (lit< tt))))

  -- from step n on, at the table's entries i and j for the turn
  near_at : (term : ℕ → ℕ → ℕ → ℕ) → ((C n p q : ℕ) → term n (C * p) (C * q) ≡ (C * C) ^ n * (C * C) * term n p q) → (n : ℕ) (i j : ℕ → ℕ)
      → ((P M : ℕ) → (let q = turned y in Line 65536 (q % 65536) (above sines (i q)) (below sines (i q)) (above sines (j q)) (below sines (j q)) P M) → Bracketed term (2 ^ 24) P (M + 16) M (P + 16) y grid)
      → n % 4096 ≡ i turn → (n + 1) % 4096 ≡ j turn → SumsWithin term (m * up e) (down e) (table_sine n (fraction_of turn))
  unfolding size_at
  near_at term scales n i j within a b =
      let P = cond (sided n).b 0 (size_at n) in
      let M = cond (sided n).b (size_at n) 0 in
      subst (λ (r : Float). SumsWithin term (m * up e) (down e) r) (sym (wave_size n turn))
      (whole_within term scales g.C (m * up e) (down e) g.positive g.is (sided n).b (size_at n) (small_at n)
      (within P M (subst (λ (q : ℕ). Line 65536 (q % 65536) (above sines (i q)) (below sines (i q)) (above sines (j q)) (below sines (j q)) P M) (sym same_turn) (line_at n (i turn) (j turn) a b))))

  pub sine_near : SumsWithin sin_term (m * up e) (down e) (table_sine (step_of turn) (fraction_of turn))
  sine_near = near_at sin_term sin_scales (step_of turn) (λ q. q / 65536 % 4096) (λ q. suc (q / 65536) % 4096) (λ P M. sine_within y P M y_fits) (omega arith) (omega arith)

  pub cosine_near : SumsWithin cos_term (m * up e) (down e) (table_sine (step_of turn + 1024) (fraction_of turn))
  cosine_near = near_at cos_term cos_scales (step_of turn + 1024) (λ q. (q / 65536 + 1024) % 4096) (λ q. (suc (q / 65536) + 1024) % 4096) (λ P M. cosine_within y P M y_fits) (omega arith) (omega arith)
