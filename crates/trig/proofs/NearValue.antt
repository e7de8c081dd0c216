-- From a float's known value to `Within`: at any fraction of that value, and against the sums of a series.
use Rattle.std.proofs.Common.{◌≡◌, ℕ, ◌+◌, ◌*◌, ◌^◌, ◌<◌, ◌≤◌, Bool, true, false, cond, sym, ap, subst, le_trans, le_of_eq, mul-le-mul_right, mul-le-mul_left, arith}
use native.Mathlib.Nat.{le_of_mul-le-mul_left}
use lib.Ieee.{Float, nan, inf, fin, up, down}
use lib.Ieee.Exact.{HasValue}
use Rattle.series.specs.Series.{denominator, added, taken}
use Rattle.series.proofs.AlternatingSums.{AtLeast, AtMost, Bracketed, relax_least, relax_most}
use Rattle.trig.specs.Accuracy.{NotAbove, Near, Within, SumsWithin}

-- ---- `NotAbove`, on either side
pub not_above : (x y d u v e : ℕ) → 2 ^ 20 * (x * e + v * d) ≤ 2 ^ 20 * (y * e + u * d) + d * e → NotAbove x y d u v e
unfolding NotAbove
not_above x y d u v e h = h

pub not_below : (x y d u v e : ℕ) → 2 ^ 20 * (y * e + u * d) ≤ 2 ^ 20 * (x * e + v * d) + d * e → NotAbove u v e x y d
unfolding NotAbove
not_below x y d u v e h = omega arith

-- a bound from above of a fraction is one from below of its negative
turned : (x y d u v e : ℕ) → NotAbove u v e x y d → NotAbove y x d v u e
unfolding NotAbove
turned x y d u v e h = omega arith

pub raise : (x y d u v u' v' e : ℕ) → u ≤ u' → v' ≤ v → NotAbove x y d u v e → NotAbove x y d u' v' e
unfolding NotAbove
raise x y d u v u' v' e h k l = omega (arith, mul-le-mul_right d h, mul-le-mul_right d k)

pub lessen : (x y d u v u' v' e : ℕ) → u' ≤ u → v ≤ v' → NotAbove u v e x y d → NotAbove u' v' e x y d
lessen x y d u v u' v' e h k l = turned v' u' e y x d (raise y x d v u v' u' e k h (turned x y d u v e l))

-- ---- the same at another fraction of the same value
module _ (D d x y x' y' u v e : ℕ) (p : 0 < D) (ex : x' * D ≡ x * d) (ey : y' * D ≡ y * d) where
  same_high : NotAbove x y D u v e → NotAbove x' y' d u v e
  unfolding NotAbove
  same_high h = le_of_mul-le-mul_left {k = D} (le_trans (le_of_eq (left (2 ^ 20))) (le_trans (mul-le-mul_left d h) (le_of_eq (right (2 ^ 20))))) p
    where
      left : (k : ℕ) → D * (k * (x' * e + v * d)) ≡ d * (k * (x * e + v * D))
      left k = omega (arith, ap (λ (z : ℕ). k * e * z) ex)

      right : (k : ℕ) → d * (k * (y * e + u * D) + D * e) ≡ D * (k * (y' * e + u * d) + d * e)
      right k = omega (arith, ap (λ (z : ℕ). k * e * z) ey)

same_near : (D d x y x' y' u v e : ℕ) → 0 < D → x' * D ≡ x * d → y' * D ≡ y * d → Near x y D u v e → Near x' y' d u v e
same_near D d x y x' y' u v e p ex ey n =
    record {
      high = same_high D d x y x' y' u v e p ex ey n.high;
      low = turned v u e y' x' d (same_high D d y x y' x' v u e p ey ex (turned x y D u v e n.low));
    }

none : (x y : ℕ) → 0 * x ≡ 0 * y
none x y = omega arith

own_fraction : (t : Bool) (n d N D u v e : ℕ) → 0 < D → n * D ≡ N * d → Near (cond t 0 N) (cond t N 0) D u v e → Near (cond t 0 n) (cond t n 0) d u v e
own_fraction true n d N D u v e p h k = same_near D d 0 N 0 n u v e p (none D d) h k
own_fraction false n d N D u v e p h k = same_near D d N 0 n 0 u v e p h (none D d) k

pub within_value : (r : Float) (t : Bool) (N D u v e : ℕ) → 0 < D → HasValue r t N D → Near (cond t 0 N) (cond t N 0) D u v e → Within u v e r
within_value nan t N D u v e p h k = absurd h
within_value (inf s) t N D u v e p h k = absurd h
within_value (fin s n d) t N D u v e p h k = subst (λ (b : Bool). Near (cond b 0 (n * up d)) (cond b (n * up d) 0) (down d) u v e) (sym h.0) (own_fraction t (n * up d) (down d) N D u v e p h.1 k)

-- ---- against the sums of a series, which lie between (x - y) / R and (y' - x') / R
-- P / D - M / D is at most 2^-20 above the one, and below the other
pub record Inside (R x y x' y' P M D : ℕ) : Type 0 where
  pub low : 2 ^ 20 * P * R + y * (2 ^ 20 * D) ≤ x * (2 ^ 20 * D) + (2 ^ 20 * M + D) * R
  pub high : 2 ^ 20 * M * R + y' * (2 ^ 20 * D) ≤ x' * (2 ^ 20 * D) + (2 ^ 20 * P + D) * R

near_sum : (P M D u v e : ℕ) → 2 ^ 20 * D * v + 2 ^ 20 * P * e ≤ 2 ^ 20 * D * u + (2 ^ 20 * M + D) * e → NotAbove P M D u v e
unfolding NotAbove
near_sum P M D u v e h = omega arith

module _ (term : ℕ → ℕ → ℕ → ℕ) (p q R x y x' y' P M D : ℕ) (pos : 0 < R) (h : Inside R x y x' y' P M D) where
  near_above : (n : ℕ) → AtLeast term R x y n p q → NotAbove P M D (added term n p q) (taken term n p q) (denominator n q)
  unfolding AtLeast
  near_above n l = near_sum P M D (added term n p q) (taken term n p q) (denominator n q) (relax_least term p q R x y (2 ^ 20 * D) (2 ^ 20 * P) (2 ^ 20 * M + D) n pos h.low l)

  near_below : (n : ℕ) → AtMost term R x' y' n p q → NotAbove (added term n p q) (taken term n p q) (denominator n q) P M D
  unfolding AtMost
  near_below n l = let u = added term n p q in let v = taken term n p q in let e = denominator n q in turned v u e M P D (near_sum M P D v u e (relax_most term p q R x' y' (2 ^ 20 * D) (2 ^ 20 * M) (2 ^ 20 * P + D) n pos h.high l))

pub sums_within : (term : ℕ → ℕ → ℕ → ℕ) (p q R x y x' y' : ℕ) (r : Float) (t : Bool) (N D : ℕ) → 0 < R → 0 < D → HasValue r t N D → Bracketed term R x y x' y' p q → Inside R x y x' y' (cond t 0 N) (cond t N 0) D → SumsWithin term p q r
sums_within term p q R x y x' y' r t N D pos dp v b h i =
    within_value r t N D (added term (33 + i) p q) (taken term (33 + i) p q) (denominator (33 + i) q) dp v (record {
      high = near_above term p q R x y x' y' (cond t 0 N) (cond t N 0) D pos h (33 + i) (b.least i);
      low = near_below term p q R x y x' y' (cond t 0 N) (cond t N 0) D pos h (33 + i) (b.most i);
    })
