-- Euler's sums at a nearby fraction: what bounds them at p / q bounds them at (p + d) / q, and back, but for d / q + (d / q)² and 2^-30.
use mathlib.Core.Path.{◌≡◌, subst}
use Prim.Native.Nat.{ℕ, ◌+◌, ◌*◌, ◌^◌, ◌≤◌, ◌<◌}
use native.Mathlib.Nat.{mul-le-mul_left, mul-le-mul_right, mul-le-mul, le_trans, le_of_eq, le_of_mul-le-mul_left, mul-pos, le_of_lt, mul_comm}
use native.Mathlib.Omega.{arith}
use Rattle.series.specs.Series.{euler_denominator, euler_sum}
use Rattle.series.proofs.EulerGrowth.{ev, od, u, v, grows_at_most, grows_at_least, v_pow}
use lib.Dec.{lit≤, lit<}
use mathlib.Core.Logic.{inl, inr}
use Rattle.series.proofs.EulerSums.{den_is, at_most_one, den_pos, tail_small, Sum}
use Rattle.series.proofs.Numbers.{lt_or_le}

-- `EulerGrowth`'s two laws over the denominators
pub law_up : (n p d q : ℕ) → p * (p + d) ≤ q * q → (p * p + q * q) * (euler_sum n (p + d) q * euler_denominator n p q) ≤ (p * p + q * q) * (euler_sum n p q * euler_denominator n (p + d) q) + d * d * (euler_sum n (p + d) q * euler_denominator n p q) + d * q * (euler_denominator n p q * euler_denominator n (p + d) q)
law_up n p d q h =
    rw (den_is n p q, den_is n (p + d) q)
    (go (p * p + q * q) (d * d) (d * q) ((p * p + q * q) ^ n) (((p + d) * (p + d) + q * q) ^ n) (euler_sum n (p + d) q) (euler_sum n p q) (od n) (ev n * u p d q h ^ n) (grows_at_most p d q h n))
  where
    go : (A D Q a b N M w x : ℕ) → A * (a * N) + Q * x ≤ A * (b * M) + D * (a * N) + Q * (w * (a * b)) → A * (N * (a * w)) ≤ A * (M * (b * w)) + D * (N * (a * w)) + Q * (a * w * (b * w))
    go A D Q a b N M w x h = omega (arith, mul-le-mul_right w h)

weigh : (B D Q a b N M w e x : ℕ) → (B * (b * M) + Q * (w * (b * a))) * w ≤ (B * (a * N) + D * (b * M) + Q * (e * (x * b))) * w → B * (M * (b * w)) + Q * (a * w * (b * w)) ≤ B * (N * (a * w)) + D * (M * (b * w)) + Q * (e * x * (b * w))
weigh B D Q a b N M w e x h = omega arith

pub law_down : (n p d q : ℕ) → p * (p + d) ≤ q * q → ((p + d) * (p + d) + q * q) * (euler_sum n p q * euler_denominator n (p + d) q) + d * q * (euler_denominator n p q * euler_denominator n (p + d) q) ≤ ((p + d) * (p + d) + q * q) * (euler_sum n (p + d) q * euler_denominator n p q) + d * d * (euler_sum n p q * euler_denominator n (p + d) q) + d * q * (ev n * (p * p) ^ n * euler_denominator n (p + d) q)
law_down n p d q h =
    rw (den_is n p q, den_is n (p + d) q)
    (go ((p + d) * (p + d) + q * q) (d * d) (d * q) ((p * p + q * q) ^ n) (((p + d) * (p + d) + q * q) ^ n) (euler_sum n (p + d) q) (euler_sum n p q) (od n) (ev n) ((p * p) ^ n) (v p d q h ^ n) (v_pow p d q h n) (grows_at_least p d q h n))
  where
    go : (B D Q a b N M w e x y : ℕ) → y ≡ x * b → B * (b * M) + Q * (w * (b * a)) ≤ B * (a * N) + D * (b * M) + Q * (e * y) → B * (M * (b * w)) + Q * (a * w * (b * w)) ≤ B * (N * (a * w)) + D * (M * (b * w)) + Q * (e * x * (b * w))
    go B D Q a b N M w e x y k h = omit (subst (λ (z : ℕ). B * (b * M) + Q * (w * (b * a)) ≤ B * (a * N) + D * (b * M) + Q * (e * z)) k h)
      where
        omit : B * (b * M) + Q * (w * (b * a)) ≤ B * (a * N) + D * (b * M) + Q * (e * (x * b)) → B * (M * (b * w)) + Q * (a * w * (b * w)) ≤ B * (N * (a * w)) + D * (M * (b * w)) + Q * (e * x * (b * w))
        omit h' = weigh B D Q a b N M w e x (mul-le-mul_right w h')

-- ---- the sums grow with p / q, but for what the terms past the n-th come to: 2^-30
pub tail : (n k p q : ℕ) → p ≤ q → k * ev n ≤ 2 ^ n * od n → k * (ev n * (p * p) ^ n) ≤ euler_denominator n p q
tail n k p q h r = rw (den_is n p q) (go (2 ^ n) ((p * p) ^ n) ((p * p + q * q) ^ n) (ev n) (od n) (tail_small n p q h) r)
  where
    go : (t x a e w : ℕ) → t * x ≤ a → k * e ≤ t * w → k * (e * x) ≤ a * w
    go t x a e w h r = le_trans (le_of_eq (turn x e)) (le_trans (mul-le-mul_right x r) (le_trans (le_of_eq (turn' t w x)) (mul-le-mul_right w h)))
      where
        turn : (x e : ℕ) → k * (e * x) ≡ k * e * x
        turn x e = omega arith

        turn' : (t w x : ℕ) → t * w * x ≡ t * x * w
        turn' t w x = omega arith

settle : (g e B X Y Z t k : ℕ) → e ≤ g → X ≤ Z → k * t ≤ Z → g ≤ B → B * X + g * Z ≤ B * Y + e * X + g * t → B * (k * X) ≤ B * (k * Y + Z)
settle g e B X Y Z t k h a b c l = one (mul-le-mul_left k (two (mul-le-mul h a) l)) (mul-le-mul_left g b) (mul-le-mul_right Z c)
  where
    two : e * X ≤ g * Z → B * X + g * Z ≤ B * Y + e * X + g * t → B * X ≤ B * Y + g * t
    two h l = omega arith

    one : k * (B * X) ≤ k * (B * Y + g * t) → g * (k * t) ≤ g * Z → g * Z ≤ B * Z → B * (k * X) ≤ B * (k * Y + Z)
    one h l m = omega arith

grows : (n p d q : ℕ) → p + d ≤ q → 0 < q → 2 ^ 30 * ev n ≤ 2 ^ n * od n → 2 ^ 30 * (euler_sum n p q * euler_denominator n (p + d) q) ≤ 2 ^ 30 * (euler_sum n (p + d) q * euler_denominator n p q) + euler_denominator n p q * euler_denominator n (p + d) q
grows n p d q h pos r =
    le_of_mul-le-mul_left {k = (p + d) * (p + d) + q * q}
    (go ((p + d) * (p + d) + q * q) (euler_sum n p q) (euler_sum n (p + d) q) (euler_denominator n p q) (euler_denominator n (p + d) q) (ev n * (p * p) ^ n) (2 ^ 30) (at_most_one p q n (omega arith) (big (mul-pos pos pos))) (tail n (2 ^ 30) p q (omega arith) r) (within (mul-le-mul_right {m = d} {n = q} q (omega arith)))
    (law_down n p d q (le_trans (mul-le-mul_right (p + d) (omega arith)) (mul-le-mul_left q h))))
    (omega (arith, mul-pos pos pos))
  where
    big : 0 < q * q → 0 < p * p + q * q
    big h = omega arith

    within : d * q ≤ q * q → d * q ≤ (p + d) * (p + d) + q * q
    within h = omega arith

    dq : d * d ≤ d * q
    dq = mul-le-mul_left d (omega arith)

    go : (B N M C D τ k : ℕ) → N ≤ C → k * τ ≤ C → d * q ≤ B → B * (N * D) + d * q * (C * D) ≤ B * (M * C) + d * d * (N * D) + d * q * (τ * D) → B * (k * (N * D)) ≤ B * (k * (M * C) + C * D)
    go B N M C D τ k a b c l = finish B (N * D) (M * C) (C * D) (τ * D) k (mul-le-mul_right D a) (le_trans (le_of_eq (turn τ)) (mul-le-mul_right D b)) c l
      where
        turn : (τ : ℕ) → k * (τ * D) ≡ k * τ * D
        turn τ = omega arith

        finish : (B X Y Z t k : ℕ) → X ≤ Z → k * t ≤ Z → d * q ≤ B → B * X + d * q * Z ≤ B * Y + d * d * X + d * q * t → B * (k * X) ≤ B * (k * Y + Z)
        finish B X Y Z t k a b c l = settle (d * q) (d * d) B X Y Z t k dq a b c l

-- ---- from p / q to (p + d) / q, both at most 1
-- the sum grows by at most d / q + (d / q)²
lipschitz : (n p d q : ℕ) → p + d ≤ q → 0 < q → q * q * (euler_sum n (p + d) q * euler_denominator n p q) ≤ q * q * (euler_sum n p q * euler_denominator n (p + d) q) + (d * d + d * q) * (euler_denominator n p q * euler_denominator n (p + d) q)
lipschitz n p d q h pos = go (euler_sum n (p + d) q) (euler_denominator n (p + d) q) (euler_sum n p q) (euler_denominator n p q) (at_most_one (p + d) q n h (omega (arith, mul-pos pos pos))) (law_up n p d q (le_trans (mul-le-mul_right (p + d) (omega arith)) (mul-le-mul_left q h)))
  where
    go : (N D M C : ℕ) → N ≤ D → (p * p + q * q) * (N * C) ≤ (p * p + q * q) * (M * D) + d * d * (N * C) + d * q * (C * D) → q * q * (N * C) ≤ q * q * (M * D) + (d * d + d * q) * (C * D)
    go N D M C k l = elim (lt_or_le (N * C) (M * D)) [
      | inl s ↦ more (q * q * (N * C)) (q * q * (M * D)) _ (mul-le-mul_left (q * q) (le_of_lt s))
      | inr s ↦ less (N * C) (M * D) (C * D) (le_trans (mul-le-mul_right C k) (le_of_eq (mul_comm D C))) s l
    ]
      where
        more : (a b c : ℕ) → a ≤ b → a ≤ b + c
        more a b c h = omega arith

        less : (X Y Z : ℕ) → X ≤ Z → Y ≤ X → (p * p + q * q) * X ≤ (p * p + q * q) * Y + d * d * X + d * q * Z → q * q * X ≤ q * q * Y + (d * d + d * q) * Z
        less X Y Z h s l = omega (arith, mul-le-mul_left (d * d) h, mul-le-mul_left (p * p) s)

-- ---- a bracket of n terms at a / q, as one at b / q: f covers the distance
cross : (R x e f k N D M C : ℕ) → 0 < D → k * (N * C) ≤ k * (M * D) + f * (D * C) → 0 < k → x * D ≤ R * N + e * D → (g : ℕ) → R * f ≤ g * k → x * C ≤ R * M + (e + g) * C
cross R x e f k N D M C p h kp l g s = le_of_mul-le-mul_left {k = k * D} (go (mul-le-mul_left (k * C) l) (mul-le-mul_left R h) (mul-le-mul_right (D * C) s)) (mul-pos kp p)
  where
    go : k * C * (x * D) ≤ k * C * (R * N + e * D) → R * (k * (N * C)) ≤ R * (k * (M * D) + f * (D * C)) → R * f * (D * C) ≤ g * k * (D * C) → k * D * (x * C) ≤ k * D * (R * M + (e + g) * C)
    go a b c = omega arith

cross' : (R y f k N D M C : ℕ) → 0 < D → k * (M * D) ≤ k * (N * C) + f * (D * C) → 0 < k → R * N ≤ y * D → (g : ℕ) → R * f ≤ g * k → R * M ≤ (y + g) * C
cross' R y f k N D M C p h kp l g s = le_of_mul-le-mul_left {k = k * D} (go (mul-le-mul_left (k * C) l) (mul-le-mul_left R h) (mul-le-mul_right (D * C) s)) (mul-pos kp p)
  where
    go : k * C * (R * N) ≤ k * C * (y * D) → R * (k * (M * D)) ≤ R * (k * (N * C) + f * (D * C)) → R * f * (D * C) ≤ g * k * (D * C) → k * D * (R * M) ≤ k * D * ((y + g) * C)
    go a b c = omega arith

module _ (n q R x e y g : ℕ) (pos : 0 < q) (r : 2 ^ 30 * ev n ≤ 2 ^ n * od n) (tiny : R ≤ g * 2 ^ 30) where
  tiny' : R * 1 ≤ g * 2 ^ 30
  tiny' = omega arith

  pub move_up : (p d : ℕ) → p + d ≤ q → R * (d * d + d * q) ≤ g * (q * q) → Sum R x e y n p q → Sum R x (e + g) (y + g) n (p + d) q
  move_up p d h s b = record {
    least = cross R x e 1 (2 ^ 30) (euler_sum n p q) (euler_denominator n p q) (euler_sum n (p + d) q) (euler_denominator n (p + d) q) (den_pos n p q pos) (one (2 ^ 30 * (euler_sum n p q * euler_denominator n (p + d) q)) (2 ^ 30 * (euler_sum n (p + d) q * euler_denominator n p q)) (euler_denominator n p q * euler_denominator n (p + d) q) (grows n p d q h pos r)) (lit< tt) b.least g tiny';
    most = cross' R y (d * d + d * q) (q * q) (euler_sum n p q) (euler_denominator n p q) (euler_sum n (p + d) q) (euler_denominator n (p + d) q) (den_pos n p q pos) (lipschitz n p d q h pos) (mul-pos pos pos) b.most g s;
  }
    where
      one : (a b c : ℕ) → a ≤ b + c → a ≤ b + 1 * c
      one a b c h = omega arith

  pub move_down : (p d : ℕ) → p + d ≤ q → R * (d * d + d * q) ≤ g * (q * q) → Sum R x e y n (p + d) q → Sum R x (e + g) (y + g) n p q
  move_down p d h s b = record {
    least = cross R x e (d * d + d * q) (q * q) (euler_sum n (p + d) q) (euler_denominator n (p + d) q) (euler_sum n p q) (euler_denominator n p q) (den_pos n (p + d) q pos) (swap (q * q * (euler_sum n (p + d) q * euler_denominator n p q)) (q * q * (euler_sum n p q * euler_denominator n (p + d) q)) (d * d + d * q) (euler_denominator n p q) (euler_denominator n (p + d) q) (lipschitz n p d q h pos)) (mul-pos pos pos) b.least g s;
    most = cross' R y 1 (2 ^ 30) (euler_sum n (p + d) q) (euler_denominator n (p + d) q) (euler_sum n p q) (euler_denominator n p q) (den_pos n (p + d) q pos) (one (2 ^ 30 * (euler_sum n p q * euler_denominator n (p + d) q)) (2 ^ 30 * (euler_sum n (p + d) q * euler_denominator n p q)) (euler_denominator n p q) (euler_denominator n (p + d) q) (grows n p d q h pos r)) (lit< tt) b.most g tiny';
  }
    where
      swap : (a b f C D : ℕ) → a ≤ b + f * (C * D) → a ≤ b + f * (D * C)
      swap a b f C D h = subst (λ (z : ℕ). a ≤ b + f * z) (mul_comm C D) h

      one : (a b C D : ℕ) → a ≤ b + C * D → a ≤ b + 1 * (D * C)
      one a b C D h = subst (λ (z : ℕ). a ≤ b + 1 * z) (mul_comm C D) (plain h)
        where
          plain : a ≤ b + C * D → a ≤ b + 1 * (C * D)
          plain h = omega arith

-- what the terms past the 40th come to
pub past_40 : 2 ^ 30 * ev 40 ≤ 2 ^ 40 * od 40
unfolding ev od
past_40 = lit≤ tt
