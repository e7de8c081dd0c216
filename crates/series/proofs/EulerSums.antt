-- Euler's sums: at most 1, the same for C p / C q as for p / q, and in brackets that lie inside each other, so that what 40 terms say is said of every bracket from there on.
use mathlib.Core.Path.{◌≡◌, sym, subst}
use Prim.Native.Nat.{ℕ, zero, suc, ◌+◌, ◌*◌, ◌^◌, ◌≤◌, ◌<◌}
use native.Mathlib.Nat.{mul-le-mul_left, mul-le-mul_right, mul-le-mul, le_trans, le_of_eq, le_of_mul-le-mul_left, le_of_mul-le-mul_right, mul-pos, pow-zero, pow-suc, pow-le-pow_left, le_dest, one-le-pow, add-zero, add-suc}
use native.Mathlib.Omega.{arith}
use Rattle.series.specs.Series.{euler_denominator, euler_term, euler_sum}
use Rattle.series.proofs.Numbers.{mul_pow}
use Rattle.series.proofs.EulerGrowth.{ev, od, top_is}
use lib.Dec.{lit≤}

pub den_is : (n p q : ℕ) → euler_denominator n p q ≡ (p * p + q * q) ^ n * od n
unfolding od
den_is zero p q = rw (pow-zero (p * p + q * q)) (omega arith)
den_is (suc n) p q = rw (den_is n p q, pow-suc (p * p + q * q) n) (go ((p * p + q * q) ^ n) (p * p + q * q) (od n) (2 * n + 1))
  where
    go : (a A w s : ℕ) → a * w * (A * s) ≡ a * A * (w * s)
    go a A w s = omega arith

pub cauchy : (p q : ℕ) → p ≤ q → 2 * (p * q) ≤ p * p + q * q
cauchy p q h =
    let k = le_dest h in
    subst (λ (z : ℕ). 2 * (p * z) ≤ p * p + z * z) k.1 (go k.0)
  where
    go : (k : ℕ) → 2 * (p * (p + k)) ≤ p * p + (p + k) * (p + k)
    go k = omega arith

-- the sum and twice the next term are at most 1, for p ≤ q
below_one : (p q : ℕ) → p ≤ q → (n : ℕ) → euler_sum n p q * ((p * p + q * q) * (2 * n + 1)) + 2 * euler_term n p q ≤ euler_denominator n p q * ((p * p + q * q) * (2 * n + 1))
below_one p q h zero = omega (arith, cauchy p q h)
below_one p q h (suc n) = go (p * p + q * q) (p * p) (euler_sum n p q) (euler_denominator n p q) (euler_term n p q) (2 * n + 1) (2 * n + 2) (2 * suc n + 1) (omega arith) (omega (arith, mul-le-mul h h)) (below_one p q h n)
  where
    go : (A P N D t s r T : ℕ) → r ≤ T → 2 * P ≤ A → N * (A * s) + 2 * t ≤ D * (A * s) → (N * (A * s) + t) * (A * T) + 2 * (t * (P * r)) ≤ D * (A * s) * (A * T)
    go A P N D t s r T l k h = omega (arith, mul-le-mul_right (A * T) h, mul-le-mul_right (t * r) k, mul-le-mul_right (t * A) l)

pub at_most_one : (p q n : ℕ) → p ≤ q → 0 < p * p + q * q → euler_sum n p q ≤ euler_denominator n p q
at_most_one p q n h pos = le_of_mul-le-mul_right (go (euler_sum n p q * ((p * p + q * q) * (2 * n + 1))) _ _ (below_one p q h n)) (mul-pos pos (omega arith))
  where
    go : (a b c : ℕ) → a + 2 * b ≤ c → a ≤ c
    go a b c h = omega arith

pub squares_pos : (p : ℕ) {q : ℕ} → 0 < q → 0 < p * p + q * q
squares_pos p h = omega (arith, mul-pos h h)

pub den_pos : (n p q : ℕ) → 0 < q → 0 < euler_denominator n p q
den_pos zero p q h = omega arith
den_pos (suc n) p q h = mul-pos (den_pos n p q h) (mul-pos (squares_pos p h) (omega arith))

-- what the terms past the n-th come to: at most (2n)!! / (2n-1)!! / 2^n
pub tail_small : (n p q : ℕ) → p ≤ q → 2 ^ n * (p * p) ^ n ≤ (p * p + q * q) ^ n
tail_small n p q h = le_trans (le_of_eq (sym (mul_pow 2 (p * p) n))) (pow-le-pow_left (omega (arith, mul-le-mul h h)) n)

-- ---- C p / C q is p / q
pub same_den : (C n p q : ℕ) → euler_denominator n (C * p) (C * q) ≡ (C * C) ^ n * euler_denominator n p q
same_den C zero p q = rw (pow-zero (C * C)) (omega arith)
same_den C (suc n) p q = rw (same_den C n p q, pow-suc (C * C) n) (go ((C * C) ^ n) (euler_denominator n p q) (2 * n + 1))
  where
    go : (c d s : ℕ) → c * d * ((C * p * (C * p) + C * q * (C * q)) * s) ≡ c * (C * C) * (d * ((p * p + q * q) * s))
    go c d s = omega arith

same_top : (C n p q : ℕ) → euler_term n (C * p) (C * q) ≡ (C * C) ^ n * (C * C) * euler_term n p q
same_top C zero p q = rw (pow-zero (C * C)) (omega arith)
same_top C (suc n) p q = rw (same_top C n p q, pow-suc (C * C) n) (go ((C * C) ^ n) (euler_term n p q) (2 * n + 2))
  where
    go : (c d s : ℕ) → c * (C * C) * d * (C * p * (C * p) * s) ≡ c * (C * C) * (C * C) * (d * (p * p * s))
    go c d s = omega arith

pub same_num : (C n p q : ℕ) → euler_sum n (C * p) (C * q) ≡ (C * C) ^ n * euler_sum n p q
same_num C zero p q = rw (pow-zero (C * C)) (omega arith)
same_num C (suc n) p q = rw (same_num C n p q, same_top C n p q, pow-suc (C * C) n) (go ((C * C) ^ n) (euler_sum n p q) (euler_term n p q) (2 * n + 1))
  where
    go : (c d t s : ℕ) → c * d * ((C * p * (C * p) + C * q * (C * q)) * s) + c * (C * C) * t ≡ c * (C * C) * (d * ((p * p + q * q) * s) + t)
    go c d t s = omega arith

-- (x - e) / R is at most the sum of n terms at p / q, and the sum at most y / R
pub record Sum (R x e y n p q : ℕ) : Type 0 where
  pub least : x * euler_denominator n p q ≤ R * euler_sum n p q + e * euler_denominator n p q
  pub most : R * euler_sum n p q ≤ y * euler_denominator n p q

pub sum_same : (R x e y n C p q : ℕ) → 0 < C → Sum R x e y n (C * p) (C * q) → Sum R x e y n p q
sum_same R x e y n C p q pos h = record {
  least = low ((C * C) ^ n) (euler_denominator n p q) (euler_sum n p q) k (rw (same_num C n p q, same_den C n p q) at h.least);
  most = high ((C * C) ^ n) (euler_denominator n p q) (euler_sum n p q) k (rw (same_num C n p q, same_den C n p q) at h.most);
}
  where
    k : 0 < (C * C) ^ n
    k = one-le-pow n (C * C) (mul-pos pos pos)

    low : (c D N : ℕ) → 0 < c → x * (c * D) ≤ R * (c * N) + e * (c * D) → x * D ≤ R * N + e * D
    low c D N p h = le_of_mul-le-mul_left {k = c} (go h) p
      where
        go : x * (c * D) ≤ R * (c * N) + e * (c * D) → c * (x * D) ≤ c * (R * N + e * D)
        go h = omega arith

    high : (c D N : ℕ) → 0 < c → R * (c * N) ≤ y * (c * D) → R * N ≤ y * D
    high c D N p h = le_of_mul-le-mul_left {k = c} (go h) p
      where
        go : R * (c * N) ≤ y * (c * D) → c * (R * N) ≤ c * (y * D)
        go h = omega arith

pub same_sum : (R x e y n C p q : ℕ) → Sum R x e y n p q → Sum R x e y n (C * p) (C * q)
same_sum R x e y n C p q h = record {
  least = rw (same_num C n p q, same_den C n p q) (low ((C * C) ^ n) (euler_denominator n p q) (euler_sum n p q) h.least);
  most = rw (same_num C n p q, same_den C n p q) (high ((C * C) ^ n) (euler_denominator n p q) (euler_sum n p q) h.most);
}
  where
    low : (c D N : ℕ) → x * D ≤ R * N + e * D → x * (c * D) ≤ R * (c * N) + e * (c * D)
    low c D N h = omega (arith, mul-le-mul_left c h)

    high : (c D N : ℕ) → R * N ≤ y * D → R * (c * N) ≤ y * (c * D)
    high c D N h = omega (arith, mul-le-mul_left c h)

-- ---- wider bounds
pub sum_relax : (R x e y R' x' e' y' n p q : ℕ) → 0 < R → x' * R + e * R' ≤ x * R' + e' * R → y * R' ≤ y' * R → Sum R x e y n p q → Sum R' x' e' y' n p q
sum_relax R x e y R' x' e' y' n p q pos h k s = record {
  least = le_of_mul-le-mul_left {k = R} (low (euler_denominator n p q) (euler_sum n p q) (mul-le-mul_left R' s.least) (mul-le-mul_right (euler_denominator n p q) h)) pos;
  most = le_of_mul-le-mul_left {k = R} (high (euler_denominator n p q) (euler_sum n p q) (mul-le-mul_left R' s.most) (mul-le-mul_right (euler_denominator n p q) k)) pos;
}
  where
    low : (D N : ℕ) → R' * (x * D) ≤ R' * (R * N + e * D) → (x' * R + e * R') * D ≤ (x * R' + e' * R) * D → R * (x' * D) ≤ R * (R' * N + e' * D)
    low D N a b = omega arith

    high : (D N : ℕ) → R' * (R * N) ≤ R' * (y * D) → y * R' * D ≤ y' * R * D → R * (R' * N) ≤ R * (y' * D)
    high D N a b = omega arith

-- ---- the brackets: the sums grow, and with the last term once more they fall
-- x is at most R times the sum of n terms; R times the sum of suc n terms, the last once more, is at most x
unfoldable pub Low : ℕ → ℕ → ℕ → ℕ → ℕ → ℕ → Type 0
Low R x e n p q = x * euler_denominator n p q ≤ R * euler_sum n p q + e * euler_denominator n p q

unfoldable pub High : ℕ → ℕ → ℕ → ℕ → ℕ → Type 0
High R x n p q = R * (euler_sum (suc n) p q + euler_term n p q) ≤ x * euler_denominator (suc n) p q

low_on : (R x e n p q : ℕ) → Low R x e n p q → Low R x e (suc n) p q
unfolding Low
low_on R x e n p q h = go (euler_denominator n p q) (euler_sum n p q) (euler_term n p q) ((p * p + q * q) * (2 * n + 1)) h
  where
    go : (D N t k : ℕ) → x * D ≤ R * N + e * D → x * (D * k) ≤ R * (N * k + t) + e * (D * k)
    go D N t k h = omega (arith, mul-le-mul_right k h)

high_on : (R x n p q : ℕ) → p ≤ q → High R x n p q → High R x (suc n) p q
unfolding High
high_on R x n p q l h = go (euler_denominator (suc n) p q) (euler_sum (suc n) p q) (euler_term n p q) (p * p) (p * p + q * q) (2 * n + 2) (2 * suc n + 1) (omega arith) (omega (arith, mul-le-mul l l)) h
  where
    go : (D N t P A r s : ℕ) → r ≤ s → 2 * P ≤ A → R * (N + t) ≤ x * D → R * (N * (A * s) + t * (P * r) + t * (P * r)) ≤ x * (D * (A * s))
    go D N t P A r s k m h = le_trans (mul-le-mul_left R (inner (mul-le-mul_right (t * r) m) (mul-le-mul_left (t * A) k))) (le_trans (le_of_eq (out (N + t))) (le_trans (mul-le-mul_right (A * s) h) (le_of_eq (back D))))
      where
        inner : 2 * P * (t * r) ≤ A * (t * r) → t * A * r ≤ t * A * s → N * (A * s) + t * (P * r) + t * (P * r) ≤ (N + t) * (A * s)
        inner h k = omega arith

        out : (z : ℕ) → R * (z * (A * s)) ≡ R * z * (A * s)
        out z = omega arith

        back : (D : ℕ) → x * D * (A * s) ≡ x * (D * (A * s))
        back D = omega arith

-- the last of forty terms is at most 2^-40
odds : ev 39 ≤ od 40
unfolding ev od
odds = lit≤ tt

last_small : (n p q : ℕ) → p ≤ q → ev n ≤ od (suc n) → 2 ^ suc n * euler_term n p q ≤ euler_denominator (suc n) p q
last_small n p q h o = rw (top_is n p q, den_is (suc n) p q, pow-suc 2 n, pow-suc (p * p + q * q) n) (go (2 ^ n) ((p * p) ^ n) ((p * p + q * q) ^ n) (p * p + q * q) (ev n) (od (suc n)) (tail_small n p q h) (cauchy p q h) o)
  where
    go : (t x a A e w : ℕ) → t * x ≤ a → 2 * (p * q) ≤ A → e ≤ w → t * 2 * (p * q * x * e) ≤ a * A * w
    go t x a A e w h k o = le_trans (le_of_eq (left (p * q))) (mul-le-mul (mul-le-mul h k) o)
      where
        left : (y : ℕ) → t * 2 * (y * x * e) ≡ t * x * (2 * y) * e
        left y = omega arith

pub low_from : (R x e n p q : ℕ) → Low R x e n p q → (i : ℕ) → Low R x e (n + i) p q
low_from R x e n p q h zero = rw (add-zero n) h
low_from R x e n p q h (suc i) = rw (add-suc n i) (low_on R x e (n + i) p q (low_from R x e n p q h i))

pub high_from : (R y n p q : ℕ) → p ≤ q → High R y n p q → (i : ℕ) → High R y (n + i) p q
high_from R y n p q l h zero = rw (add-zero n) h
high_from R y n p q l h (suc i) = rw (add-suc n i) (high_on R y (n + i) p q l (high_from R y n p q l h i))

-- every bracket from 40 terms on: at least (x - e) / R, and with the last term once more at most y / R
pub record Brackets (R x e y p q : ℕ) : Type 0 where
  pub least : (i : ℕ) → Low R x e (40 + i) p q
  pub most : (i : ℕ) → High R y (39 + i) p q

-- n is kept a variable: at a numeral the sums would be computed out
start : (n R x e y g p q : ℕ) → p ≤ q → ev n ≤ od (suc n) → R ≤ g * 2 ^ suc n → Sum R x e y (suc n) p q → Low R x e (suc n) p q × High R (y + g) n p q
unfolding Low High
start n R x e y g p q h o big s = (s.least, go (euler_sum (suc n) p q) (euler_term n p q) (euler_denominator (suc n) p q) (2 ^ suc n) s.most (mul-le-mul_right (euler_term n p q) big) (mul-le-mul_left g (last_small n p q h o)))
  where
    go : (N t D k : ℕ) → R * N ≤ y * D → R * t ≤ g * k * t → g * (k * t) ≤ g * D → R * (N + t) ≤ (y + g) * D
    go N t D k a b c = omega arith

pub from_sum : (R x e y g p q : ℕ) → p ≤ q → R ≤ g * 2 ^ 40 → Sum R x e y 40 p q → Brackets R x e (y + g) p q
from_sum R x e y g p q h big s = let r = start 39 R x e y g p q h odds big s in record { least = λ i. low_from R x e 40 p q r.0 i; most = λ i. high_from R (y + g) 39 p q h r.1 i }

pub sum_of : (R x e y n p q : ℕ) → Low R x e (suc n) p q → High R y n p q → Sum R x e y (suc n) p q
unfolding Low High
sum_of R x e y n p q a b = record { least = a; most = less (euler_sum (suc n) p q) (euler_term n p q) (y * euler_denominator (suc n) p q) b }
  where
    less : (N t z : ℕ) → R * (N + t) ≤ z → R * N ≤ z
    less N t z h = omega arith
