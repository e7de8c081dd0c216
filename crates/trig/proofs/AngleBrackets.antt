-- From a float near c π/4 ± a, with a near an arctangent, to `AngleWithin`. K is 2^149, E is 2^119, and a quarter of the f32 π is 843314880 E.
use Rattle.std.proofs.Common.{◌≡◌, ℕ, suc, ◌+◌, ◌*◌, ◌^◌, ◌≤◌, Bool, true, false, cond, ap, subst, le_refl, mul-le-mul_right, mul-le-mul_left, arith, lit<, lit≤}
use lib.Ieee.{Float}
use lib.Ieee.Exact.{HasValue}
use Rattle.series.specs.Series.{euler_denominator, euler_sum, euler_term}
use Rattle.series.proofs.EulerSums.{Low, High, Sum, from_sum}
use Rattle.series.proofs.PiWithin.{pi_within}
use Rattle.trig.specs.Accuracy.{NotAbove, Near, atan_denominator, atan_low, atan_high, quarter_denominator, quarter_low, quarter_high, AngleWithin}
use Rattle.trig.proofs.NearValue.{not_above, not_below, raise, lessen, within_value}

-- (P - M) is c Π + (X - Y), or where `away` c Π - (X - Y), off by at most f
pub record Built (c : ℕ) (away : Bool) (X Y P M f E : ℕ) : Type 0 where
  pub high : P + cond away X Y ≤ M + c * (843314880 * E) + cond away Y X + f
  pub low : M + c * (843314880 * E) + cond away Y X ≤ P + cond away X Y + f

-- ---- the four inequalities; A and B are the denominators, N and N' the arctangent's ends, Q and Q' those of π/4
low_plus : (c P M X Y f ε E A B N Q : ℕ) → c ≤ 4 → 94 * E + ε + f ≤ 1024 * E → P + Y ≤ M + c * (843314880 * E) + X + f → X * A ≤ 2 ^ 30 * E * N + (Y + ε) * A → 3373259520 * B ≤ 2 ^ 32 * Q + 94 * B →
    2 ^ 20 * (P * (A * B) + 0 * B * (2 ^ 30 * E)) ≤ 2 ^ 20 * (M * (A * B) + (c * Q * A + N * B) * (2 ^ 30 * E)) + 2 ^ 30 * E * (A * B)
low_plus c P M X Y f ε E A B N Q cl l h a b = omega (arith, mul-le-mul_right (A * B) h, mul-le-mul_right B a, mul-le-mul_left (c * E * A) b, mul-le-mul_right (E * (A * B)) cl, mul-le-mul_right (A * B) l)

low_away : (c P M X Y f ε E A B N Q : ℕ) → c ≤ 4 → 94 * E + ε + f ≤ 1024 * E → P + X ≤ M + c * (843314880 * E) + Y + f → 2 ^ 30 * E * N + Y * A ≤ (X + ε) * A → 3373259520 * B ≤ 2 ^ 32 * Q + 94 * B →
    2 ^ 20 * (P * (A * B) + N * B * (2 ^ 30 * E)) ≤ 2 ^ 20 * (M * (A * B) + (c * Q * A + 0 * B) * (2 ^ 30 * E)) + 2 ^ 30 * E * (A * B)
low_away c P M X Y f ε E A B N Q cl l h a b = omega (arith, mul-le-mul_right (A * B) h, mul-le-mul_right B a, mul-le-mul_left (c * E * A) b, mul-le-mul_right (E * (A * B)) cl, mul-le-mul_right (A * B) l)

high_plus : (c P M X Y f ε E A B N Q : ℕ) → c ≤ 4 → 94 * E + ε + f ≤ 1024 * E → M + c * (843314880 * E) + X ≤ P + Y + f → 2 ^ 30 * E * N + Y * A ≤ (X + ε) * A → 2 ^ 32 * Q ≤ 3373259520 * B →
    2 ^ 20 * (M * (A * B) + (c * Q * A + N * B) * (2 ^ 30 * E)) ≤ 2 ^ 20 * (P * (A * B) + 0 * B * (2 ^ 30 * E)) + 2 ^ 30 * E * (A * B)
high_plus c P M X Y f ε E A B N Q cl l h a b = omega (arith, mul-le-mul_right (A * B) h, mul-le-mul_right B a, mul-le-mul_left (c * E * A) b, mul-le-mul_right (A * B) l)

high_away : (c P M X Y f ε E A B N Q : ℕ) → c ≤ 4 → 94 * E + ε + f ≤ 1024 * E → M + c * (843314880 * E) + Y ≤ P + X + f → X * A ≤ 2 ^ 30 * E * N + (Y + ε) * A → 2 ^ 32 * Q ≤ 3373259520 * B →
    2 ^ 20 * (M * (A * B) + (c * Q * A + 0 * B) * (2 ^ 30 * E)) ≤ 2 ^ 20 * (P * (A * B) + N * B * (2 ^ 30 * E)) + 2 ^ 30 * E * (A * B)
high_away c P M X Y f ε E A B N Q cl l h a b = omega (arith, mul-le-mul_right (A * B) h, mul-le-mul_right B a, mul-le-mul_left (c * E * A) b, mul-le-mul_right (A * B) l)

-- ---- the arctangent's ends
pub record Ends (X Y ε E p q : ℕ) : Type 0 where
  pub least : (i : ℕ) → X * euler_denominator (40 + i) p q ≤ 2 ^ 30 * E * euler_sum (40 + i) p q + (Y + ε) * euler_denominator (40 + i) p q
  pub most : (i : ℕ) → 2 ^ 30 * E * (euler_sum (40 + i) p q + euler_term (39 + i) p q) + Y * euler_denominator (40 + i) p q ≤ (X + ε) * euler_denominator (40 + i) p q

high_at : (R y k n p q : ℕ) → suc n ≡ k → High R y n p q → R * (euler_sum k p q + euler_term n p q) ≤ y * euler_denominator k p q
unfolding High
high_at R y k n p q e h = subst (λ (m : ℕ). R * (euler_sum m p q + euler_term n p q) ≤ y * euler_denominator m p q) e h

after : (a i : ℕ) → suc (a + i) ≡ suc a + i
after a i = omega arith

pub arc_ends : (X Y y ε p q : ℕ) → p ≤ q → y + Y ≡ X + ε → Sum (2 ^ 149) X (Y + ε) y 40 p q → Ends X Y (ε + 2 ^ 119) (2 ^ 119) p q
unfolding Low
arc_ends X Y y ε p q h e s =
    let b = from_sum (2 ^ 149) X (Y + ε) y (2 ^ 119) p q h (lit≤ tt) s in
    record { least = λ i. low (2 ^ 149) (2 ^ 119) (euler_denominator (40 + i) p q) (euler_sum (40 + i) p q) (b.least i); most = λ i. high (2 ^ 149) (2 ^ 119) (euler_denominator (40 + i) p q) (euler_sum (40 + i) p q + euler_term (39 + i) p q) (high_at (2 ^ 149) (y + 2 ^ 119) (40 + i) (39 + i) p q (after 39 i) (b.most i)) }
  where
    low : (K E D N : ℕ) → X * D ≤ K * N + (Y + ε) * D → X * D ≤ K * N + (Y + (ε + E)) * D
    low K E D N h = omega arith

    high : (K E D N : ℕ) → K * N ≤ (y + E) * D → K * N + Y * D ≤ (X + (ε + E)) * D
    high K E D N h = omega (arith, ap (λ (z : ℕ). z * D) e)

pi_low_lem : (j : ℕ) → 3373259520 * euler_denominator (60 + j) 1 1 ≤ 2 ^ 32 * euler_sum (60 + j) 1 1 + 94 * euler_denominator (60 + j) 1 1
unfolding Low
pi_low_lem j = (pi_within j).0

pi_high_lem : (j : ℕ) → 2 ^ 32 * (euler_sum (60 + j) 1 1 + euler_term (59 + j) 1 1) ≤ 3373259520 * euler_denominator (60 + j) 1 1
pi_high_lem j = high_at (2 ^ 32) 3373259520 (60 + j) (59 + j) 1 1 (after 59 j) (pi_within j).1

-- ---- both together, at the denominator K = 2^149
-- a lower end that is not 2^-20 below and an upper end that is not 2^-20 above: both are near
pair : (P M K u v u' v' e : ℕ) → u ≤ u' → v' ≤ v → NotAbove P M K u v e → NotAbove u' v' e P M K → Near P M K u v e × Near P M K u' v' e
pair P M K u v u' v' e h k a b = (record { high = a; low = lessen P M K u' v' u v e h k b }, record { high = raise P M K u v u' v' e h k a; low = b })

wider : (c A B N N' Q Q' : ℕ) → N ≤ N' → Q ≤ Q' → c * Q * A + N * B ≤ c * Q' * A + N' * B
wider c A B N N' Q Q' h k = omega (arith, mul-le-mul_right B h, mul-le-mul_left (c * A) k)

more : (N t : ℕ) → N ≤ N + t
more N t = omega arith

module _ (c X Y f ε p q : ℕ) (cl : c ≤ 4) (l : 94 * 2 ^ 119 + ε + f ≤ 1024 * 2 ^ 119) (e : Ends X Y ε (2 ^ 119) p q) (P M : ℕ) (i j : ℕ) where
  plus_ends : Built c false X Y P M f (2 ^ 119) →
      let A = atan_denominator i p q in
      let B = quarter_denominator j in
      Near P M (2 ^ 149) (c * quarter_low j * A + atan_low i p q * B) (0 * B) (A * B) × Near P M (2 ^ 149) (c * quarter_high j * A + atan_high i p q * B) (0 * B) (A * B)
  plus_ends b =
      let A = atan_denominator i p q in
      let B = quarter_denominator j in
      let u = c * quarter_low j * A + atan_low i p q * B in
      let u' = c * quarter_high j * A + atan_high i p q * B in
      pair P M (2 ^ 149) u (0 * B) u' (0 * B) (A * B) (wider c A B (atan_low i p q) (atan_high i p q) (quarter_low j) (quarter_high j) (more (atan_low i p q) (euler_term (39 + i) p q)) (more (quarter_low j) (euler_term (59 + j) 1 1))) (le_refl (0 * B))
      (not_above P M (2 ^ 149) u (0 * B) (A * B) (low_plus c P M X Y f ε (2 ^ 119) A B (atan_low i p q) (quarter_low j) cl l b.high (e.least i) (pi_low_lem j)))
      (not_below P M (2 ^ 149) u' (0 * B) (A * B) (high_plus c P M X Y f ε (2 ^ 119) A B (atan_high i p q) (quarter_high j) cl l b.low (e.most i) (pi_high_lem j)))

  away_ends : Built c true X Y P M f (2 ^ 119) →
      let A = atan_denominator i p q in
      let B = quarter_denominator j in
      Near P M (2 ^ 149) (c * quarter_low j * A + 0 * B) (atan_high i p q * B) (A * B) × Near P M (2 ^ 149) (c * quarter_high j * A + 0 * B) (atan_low i p q * B) (A * B)
  away_ends b =
      let A = atan_denominator i p q in
      let B = quarter_denominator j in
      let u = c * quarter_low j * A + 0 * B in
      let u' = c * quarter_high j * A + 0 * B in
      pair P M (2 ^ 149) u (atan_high i p q * B) u' (atan_low i p q * B) (A * B) (wider c A B 0 0 (quarter_low j) (quarter_high j) (le_refl 0) (more (quarter_low j) (euler_term (59 + j) 1 1))) (mul-le-mul_right B (more (atan_low i p q) (euler_term (39 + i) p q)))
      (not_above P M (2 ^ 149) u (atan_high i p q * B) (A * B) (low_away c P M X Y f ε (2 ^ 119) A B (atan_high i p q) (quarter_low j) cl l b.high (e.most i) (pi_low_lem j)))
      (not_below P M (2 ^ 149) u' (atan_low i p q * B) (A * B) (high_away c P M X Y f ε (2 ^ 119) A B (atan_low i p q) (quarter_high j) cl l b.low (e.least i) (pi_high_lem j)))

pub joined : (c : ℕ) (away : Bool) (X Y f ε p q : ℕ) (r : Float) (t : Bool) (G : ℕ) → c ≤ 4 → 94 * 2 ^ 119 + ε + f ≤ 1024 * 2 ^ 119 → HasValue r t G (2 ^ 149) → Ends X Y ε (2 ^ 119) p q → Built c away X Y (cond t 0 G) (cond t G 0) f (2 ^ 119) → AngleWithin c away p q r
joined c false X Y f ε p q r t G cl l v e b = record {
  low = λ i j. within_value r t G (2 ^ 149) (c * quarter_low j * atan_denominator i p q + atan_low i p q * quarter_denominator j) (0 * quarter_denominator j) (atan_denominator i p q * quarter_denominator j) (lit< tt) v (plus_ends c X Y f ε p q cl l e (cond t 0 G) (cond t G 0) i j b).0;
  high = λ i j. within_value r t G (2 ^ 149) (c * quarter_high j * atan_denominator i p q + atan_high i p q * quarter_denominator j) (0 * quarter_denominator j) (atan_denominator i p q * quarter_denominator j) (lit< tt) v (plus_ends c X Y f ε p q cl l e (cond t 0 G) (cond t G 0) i j b).1;
}
joined c true X Y f ε p q r t G cl l v e b = record {
  low = λ i j. within_value r t G (2 ^ 149) (c * quarter_low j * atan_denominator i p q + 0 * quarter_denominator j) (atan_high i p q * quarter_denominator j) (atan_denominator i p q * quarter_denominator j) (lit< tt) v (away_ends c X Y f ε p q cl l e (cond t 0 G) (cond t G 0) i j b).0;
  high = λ i j. within_value r t G (2 ^ 149) (c * quarter_high j * atan_denominator i p q + 0 * quarter_denominator j) (atan_low i p q * quarter_denominator j) (atan_denominator i p q * quarter_denominator j) (lit< tt) v (away_ends c X Y f ε p q cl l e (cond t 0 G) (cond t G 0) i j b).1;
}
