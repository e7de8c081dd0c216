-- Laws of the alternating sums: each end of the bracket lies inside those before it, and a sum depends on p / q alone.
use mathlib.Core.Path.{◌≡◌, refl, sym, ap, ◌∙◌, subst}
use mathlib.Core.Bool.{Bool, true, false, not}
use Prim.Native.Nat.{ℕ, zero, suc, ◌+◌, ◌*◌, ◌^◌, ◌≤◌, ◌<◌}
use native.Mathlib.Nat.{mul-le-mul_left, mul-le-mul_right, mul-le-mul, le_trans, le_of_eq, le_refl, pow-zero, pow-suc, le_of_mul-le-mul_left, one-le-pow, mul-pos}
use native.Mathlib.Omega.{arith}
use Rattle.series.specs.Series.{step, denominator, sin_term, cos_term, when, even, total, added, taken}
use Rattle.series.proofs.Numbers.{mul_pow}

-- (x - y) / R is at most the sum of n terms; the sum of n terms is at most (y - x) / R
unfoldable pub AtLeast : (ℕ → ℕ → ℕ → ℕ) → ℕ → ℕ → ℕ → ℕ → ℕ → ℕ → Type 0
AtLeast term R x y n p q = R * taken term n p q + x * denominator n q ≤ R * added term n p q + y * denominator n q

unfoldable pub AtMost : (ℕ → ℕ → ℕ → ℕ) → ℕ → ℕ → ℕ → ℕ → ℕ → ℕ → Type 0
AtMost term R x y n p q = R * added term n p q + x * denominator n q ≤ R * taken term n p q + y * denominator n q

-- ---- another fraction that is no larger, or no smaller
widen : (R R' X Y D x y x' y' : ℕ) → 0 < R → x' * R + y * R' ≤ x * R' + y' * R → R * Y + x * D ≤ R * X + y * D → R' * Y + x' * D ≤ R' * X + y' * D
widen R R' X Y D x y x' y' p h k = le_of_mul-le-mul_left {k = R} (go (mul-le-mul_left R' k) (mul-le-mul_right D h)) p
  where
    go : R' * (R * Y + x * D) ≤ R' * (R * X + y * D) → (x' * R + y * R') * D ≤ (x * R' + y' * R) * D → R * (R' * Y + x' * D) ≤ R * (R' * X + y' * D)
    go h k = omega arith

-- ---- two more terms, the first of the sign that helps and the second no larger
grow : (R X Y D i j t r a c : ℕ) → R * Y + a * D ≤ R * X + c * D → r ≤ t * j → R * ((Y * i + 0) * j + r) + a * (D * i * j) ≤ R * ((X * i + t) * j + 0) + c * (D * i * j)
grow R X Y D i j t r a c h k = omega (arith, mul-le-mul_right (i * j) h, mul-le-mul_left R k)

-- n more pairs of terms
abbrev pub pairs : ℕ → ℕ → ℕ
pairs k zero = k
pairs k (suc i) = suc (suc (pairs k i))

pairs_is : (k i : ℕ) → pairs k i ≡ k + 2 * i
pairs_is k zero = omega arith
pairs_is k (suc i) = rw (pairs_is k i) (omega arith)

pairs_suc : (k i : ℕ) → suc (pairs k i) ≡ pairs (suc k) i
pairs_suc k zero = refl
pairs_suc k (suc i) = ap (λ (n : ℕ). suc (suc n)) (pairs_suc k i)

-- k + 2 b terms, and pairs
pub pairs_on : (k b i : ℕ) → pairs k (b + i) ≡ pairs (k + 2 * b) i
pairs_on k b i = pairs_is k (b + i) ∙ go k b i ∙ sym (pairs_is (k + 2 * b) i)
  where
    go : (k b i : ℕ) → k + 2 * (b + i) ≡ k + 2 * b + 2 * i
    go k b i = omega arith

pairs_even : (k i : ℕ) → even (pairs k i) ≡ even k
pairs_even k zero = refl
pairs_even k (suc i) = not-not (even (pairs k i)) ∙ pairs_even k i
  where
    not-not : (t : Bool) → not (not t) ≡ t
    not-not true = refl
    not-not false = refl

pairs_least : (k i : ℕ) → k ≤ pairs k i
pairs_least k zero = le_refl k
pairs_least k (suc i) = omega (arith, pairs_least k i)

least_on : (term : ℕ → ℕ → ℕ → ℕ) (p q R x y n : ℕ) → even n ≡ true → term (suc n) p q ≤ term n p q * step (suc n) q → AtLeast term R x y n p q → AtLeast term R x y (suc (suc n)) p q
unfolding AtLeast
least_on term p q R x y n e f h = rw e (grow R (added term n p q) (taken term n p q) (denominator n q) (step n q) (step (suc n) q) (term n p q) (term (suc n) p q) x y h f)

most_on : (term : ℕ → ℕ → ℕ → ℕ) (p q R x y n : ℕ) → even n ≡ false → term (suc n) p q ≤ term n p q * step (suc n) q → AtMost term R x y n p q → AtMost term R x y (suc (suc n)) p q
unfolding AtMost
most_on term p q R x y n e f h = rw e (grow R (taken term n p q) (added term n p q) (denominator n q) (step n q) (step (suc n) q) (term n p q) (term (suc n) p q) x y h f)

module _ (term : ℕ → ℕ → ℕ → ℕ) (p q : ℕ) where
  pub relax_least : (R x y R' x' y' n : ℕ) → 0 < R → x' * R + y * R' ≤ x * R' + y' * R → AtLeast term R x y n p q → AtLeast term R' x' y' n p q
  unfolding AtLeast
  relax_least R x y R' x' y' n = widen R R' (added term n p q) (taken term n p q) (denominator n q) x y x' y'

  pub relax_most : (R x y R' x' y' n : ℕ) → 0 < R → x' * R + y * R' ≤ x * R' + y' * R → AtMost term R x y n p q → AtMost term R' x' y' n p q
  unfolding AtMost
  relax_most R x y R' x' y' n = widen R R' (taken term n p q) (added term n p q) (denominator n q) x y x' y'

  -- from the k-th on the terms grow smaller
  pub least_all : (k : ℕ) → ((n : ℕ) → k ≤ n → term (suc n) p q ≤ term n p q * step (suc n) q) → (R x y : ℕ) → even k ≡ true → AtLeast term R x y k p q → (i : ℕ) → AtLeast term R x y (pairs k i) p q
  least_all k f R x y e h zero = h
  least_all k f R x y e h (suc i) = least_on term p q R x y (pairs k i) (pairs_even k i ∙ e) (f (pairs k i) (pairs_least k i)) (least_all k f R x y e h i)

  pub most_all : (k : ℕ) → ((n : ℕ) → k ≤ n → term (suc n) p q ≤ term n p q * step (suc n) q) → (R x y : ℕ) → even k ≡ false → AtMost term R x y k p q → (i : ℕ) → AtMost term R x y (pairs k i) p q
  most_all k f R x y e h zero = h
  most_all k f R x y e h (suc i) = most_on term p q R x y (pairs k i) (pairs_even k i ∙ e) (f (pairs k i) (pairs_least k i)) (most_all k f R x y e h i)

-- ---- every number of terms
one_more : (R X Y D i t a c : ℕ) → R * Y + a * D ≤ R * X + c * D → R * (Y * i + 0) + a * (D * i) ≤ R * (X * i + t) + c * (D * i)
one_more R X Y D i t a c h = omega (arith, mul-le-mul_right i h)

least_next : (term : ℕ → ℕ → ℕ → ℕ) (p q R x y n : ℕ) → even n ≡ true → AtLeast term R x y n p q → AtLeast term R x y (suc n) p q
unfolding AtLeast
least_next term p q R x y n e h = rw e (one_more R (added term n p q) (taken term n p q) (denominator n q) (step n q) (term n p q) x y h)

most_next : (term : ℕ → ℕ → ℕ → ℕ) (p q R x y n : ℕ) → even n ≡ false → AtMost term R x y n p q → AtMost term R x y (suc n) p q
unfolding AtMost
most_next term p q R x y n e h = rw e (one_more R (taken term n p q) (added term n p q) (denominator n q) (step n q) (term n p q) x y h)

by_pairs : (P : ℕ → Type 0) (k : ℕ) → ((i : ℕ) → P (pairs k i)) → ((i : ℕ) → P (suc (pairs k i))) → (i : ℕ) → P (k + i)
by_pairs P k f g zero = subst P (omega arith) (f 0)
by_pairs P k f g (suc zero) = subst P (omega arith) (g 0)
by_pairs P k f g (suc (suc i)) = subst P (omega arith) (by_pairs (λ n. P (suc (suc n))) k (λ i. f (suc i)) (λ i. g (suc i)) i)

-- each sum of 33 or more terms is at least (x - y) / R and at most (y' - x') / R
pub record Bracketed (term : ℕ → ℕ → ℕ → ℕ) (R x y x' y' p q : ℕ) : Type 0 where
  pub least : (i : ℕ) → AtLeast term R x y (33 + i) p q
  pub most : (i : ℕ) → AtMost term R x' y' (33 + i) p q

-- from the even numbers of terms for the one, and the odd ones for the other
pub bracketed : (term : ℕ → ℕ → ℕ → ℕ) (R x y x' y' p q : ℕ) → ((i : ℕ) → AtLeast term R x y (pairs 32 i) p q) → ((i : ℕ) → AtMost term R x' y' (pairs 33 i) p q) → Bracketed term R x y x' y' p q
bracketed term R x y x' y' p q l m = record {
  least = by_pairs (λ n. AtLeast term R x y n p q) 33 (λ i. subst (λ (n : ℕ). AtLeast term R x y n p q) (pairs_suc 32 i) (least_next term p q R x y (pairs 32 i) (pairs_even 32 i) (l i))) (λ i. subst (λ (n : ℕ). AtLeast term R x y (suc n) p q) (pairs_suc 32 i) (l (suc i)));
  most = by_pairs (λ n. AtMost term R x' y' n p q) 33 m (λ i. most_next term p q R x' y' (pairs 33 i) (pairs_even 33 i) (m i));
}

-- ---- when the terms grow smaller
two_on : (p k : ℕ) → p ^ suc (suc k) ≡ p ^ k * p * p
two_on p k = rw (pow-suc p (suc k), pow-suc p k)

pub sin_fades : (n p q : ℕ) → p * p ≤ q * q * ((2 * n + 2) * (2 * n + 3)) → sin_term (suc n) p q ≤ sin_term n p q * step (suc n) q
sin_fades n p q h = rw (ap (λ (k : ℕ). p ^ k) (same n), two_on p (2 * n + 1)) (go (p ^ (2 * n + 1)) (2 * suc n + 2) (2 * suc n + 1) (2 * n + 2) (2 * n + 3) (omega arith) h)
  where
    same : (n : ℕ) → 2 * suc n + 1 ≡ suc (suc (2 * n + 1))
    same n = omega arith

    go : (y s r t w : ℕ) → w ≡ r → p * p ≤ q * q * (t * w) → y * p * p * (q * s) ≤ y * (q * t) * (q * q * (r * s))
    go y s r t w e h = fin (subst (λ (z : ℕ). p * p ≤ q * q * (t * z)) e h)
      where
        fin : p * p ≤ q * q * (t * r) → y * p * p * (q * s) ≤ y * (q * t) * (q * q * (r * s))
        fin h = omega (arith, mul-le-mul_right (y * q * s) h)

pub cos_fades : (n p q : ℕ) → p * p ≤ step n q → cos_term (suc n) p q ≤ cos_term n p q * step (suc n) q
cos_fades n p q h = rw (ap (λ (k : ℕ). p ^ k) (same n), two_on p (2 * n)) (go (p ^ (2 * n)) (step n q) (step (suc n) q) h)
  where
    same : (n : ℕ) → 2 * suc n ≡ suc (suc (2 * n))
    same n = omega arith

    go : (y s r : ℕ) → p * p ≤ s → y * p * p * r ≤ y * s * r
    go y s r h = omega (arith, mul-le-mul_right (y * r) h)

-- p / q at most b, and at least n terms with b² ≤ (2n + 1)(2n + 2)
pub fading : (b p q n k : ℕ) → p ≤ b * q → k ≤ n → b * b ≤ (2 * k + 1) * (2 * k + 2) → p * p ≤ step n q
fading b p q n k h l w = le_trans (mul-le-mul h h) (le_trans (le_of_eq (square q)) (mul-le-mul_left (q * q) (le_trans w (mul-le-mul {n₁ = 2 * k + 1} {m₁ = 2 * k + 2} {n₂ = 2 * n + 1} {m₂ = 2 * n + 2} (omega arith) (omega arith)))))
  where
    square : (q : ℕ) → b * q * (b * q) ≡ q * q * (b * b)
    square q = omega arith

-- the sine's terms fade at least as fast
pub faster : (n p q : ℕ) → p * p ≤ step n q → p * p ≤ q * q * ((2 * n + 2) * (2 * n + 3))
faster n p q h = le_trans h (mul-le-mul_left (q * q) (mul-le-mul {n₁ = 2 * n + 1} {m₁ = 2 * n + 2} {n₂ = 2 * n + 2} {m₂ = 2 * n + 3} (omega arith) (omega arith)))

-- ---- C p / C q is p / q
double : (C n : ℕ) → C ^ (2 * n) ≡ (C * C) ^ n
double C zero = rw (pow-zero C, pow-zero (C * C))
double C (suc n) = ap (λ (k : ℕ). C ^ k) (same n) ∙ two_on C (2 * n) ∙ rw (double C n, pow-suc (C * C) n) (omega arith)
  where
    same : (n : ℕ) → 2 * suc n ≡ suc (suc (2 * n))
    same n = omega arith

pub cos_scales : (C n p q : ℕ) → cos_term n (C * p) (C * q) ≡ (C * C) ^ n * (C * C) * cos_term n p q
cos_scales C n p q = rw (mul_pow C p (2 * n), double C n) (go ((C * C) ^ n) (p ^ (2 * n)) ((2 * n + 1) * (2 * n + 2)))
  where
    go : (c x s : ℕ) → c * x * (C * q * (C * q) * s) ≡ c * (C * C) * (x * (q * q * s))
    go c x s = omega arith

pub sin_scales : (C n p q : ℕ) → sin_term n (C * p) (C * q) ≡ (C * C) ^ n * (C * C) * sin_term n p q
sin_scales C n p q = rw (mul_pow C p (2 * n + 1), ap (λ (k : ℕ). C ^ k) (same n), pow-suc C (2 * n), double C n) (go ((C * C) ^ n) (p ^ (2 * n + 1)) (2 * n + 2))
  where
    same : (n : ℕ) → 2 * n + 1 ≡ suc (2 * n)
    same n = omega arith

    go : (c x s : ℕ) → c * C * x * (C * q * s) ≡ c * (C * C) * (x * (q * s))
    go c x s = omega arith

den_scale : (C n q : ℕ) → denominator n (C * q) ≡ (C * C) ^ n * denominator n q
den_scale C zero q = rw (pow-zero (C * C)) (omega arith)
den_scale C (suc n) q = rw (den_scale C n q, pow-suc (C * C) n) (go ((C * C) ^ n) (denominator n q) ((2 * n + 1) * (2 * n + 2)))
  where
    go : (c d s : ℕ) → c * d * (C * q * (C * q) * s) ≡ c * (C * C) * (d * (q * q * s))
    go c d s = omega arith

when_times : (s : Bool) (k x y : ℕ) → y ≡ k * x → when s y ≡ k * when s x
when_times true k x y h = h
when_times false k x y h = omega arith

total_scale : (term : ℕ → ℕ → ℕ → ℕ) → ((C n p q : ℕ) → term n (C * p) (C * q) ≡ (C * C) ^ n * (C * C) * term n p q) → (s : Bool → Bool) (C n p q : ℕ) → total term s n (C * p) (C * q) ≡ (C * C) ^ n * total term s n p q
total_scale term h s C zero p q = rw (pow-zero (C * C)) (omega arith)
total_scale term h s C (suc n) p q = rw (total_scale term h s C n p q, pow-suc (C * C) n) (go ((C * C) ^ n) (total term s n p q) ((2 * n + 1) * (2 * n + 2)) (when (s (even n)) (term n (C * p) (C * q))) (when (s (even n)) (term n p q)) (when_times (s (even n)) ((C * C) ^ n * (C * C)) (term n p q) (term n (C * p) (C * q)) (h C n p q)))
  where
    go : (c d s w w' : ℕ) → w ≡ c * (C * C) * w' → c * d * (C * q * (C * q) * s) + w ≡ c * (C * C) * (d * (q * q * s) + w')
    go c d s w w' h = rw h (omega arith)

cancel : (k R x y z a c : ℕ) → 0 < k → R * (k * x) + a * (k * z) ≤ R * (k * y) + c * (k * z) → R * x + a * z ≤ R * y + c * z
cancel k R x y z a c pos h = le_of_mul-le-mul_left {k = k} (go h) pos
  where
    go : R * (k * x) + a * (k * z) ≤ R * (k * y) + c * (k * z) → k * (R * x + a * z) ≤ k * (R * y + c * z)
    go h = omega arith

module _ (term : ℕ → ℕ → ℕ → ℕ) (scales : (C n p q : ℕ) → term n (C * p) (C * q) ≡ (C * C) ^ n * (C * C) * term n p q) (C p q : ℕ) (pos : 0 < C) where
  least_same : (R x y n : ℕ) → AtLeast term R x y n (C * p) (C * q) → AtLeast term R x y n p q
  unfolding AtLeast
  least_same R x y n h =
      cancel ((C * C) ^ n) R (taken term n p q) (added term n p q) (denominator n q) x y (one-le-pow n (C * C) (mul-pos pos pos))
      (rw (total_scale term scales not C n p q, total_scale term scales (λ t. t) C n p q, den_scale C n q) at h)

  most_same : (R x y n : ℕ) → AtMost term R x y n (C * p) (C * q) → AtMost term R x y n p q
  unfolding AtMost
  most_same R x y n h =
      cancel ((C * C) ^ n) R (added term n p q) (taken term n p q) (denominator n q) x y (one-le-pow n (C * C) (mul-pos pos pos))
      (rw (total_scale term scales (λ t. t) C n p q, total_scale term scales not C n p q, den_scale C n q) at h)

  pub bracketed_same : (R x y x' y' : ℕ) → Bracketed term R x y x' y' (C * p) (C * q) → Bracketed term R x y x' y' p q
  bracketed_same R x y x' y' b = record { least = λ i. least_same R x y (33 + i) (b.least i); most = λ i. most_same R x' y' (33 + i) (b.most i) }
