-- The arctangent of an f32 below 2^-6 against Euler's sum of 40 terms. K is 2^149 and E, 2^-30 of it, is 2^119.
use Rattle.std.proofs.Common.{◌≡◌, ℕ, ◌+◌, ◌-◌, ◌*◌, ◌^◌, ◌<◌, ◌≤◌, Bool, false, cond, pos, refl, ap, ◌∙◌, subst, le_trans, le_of_eq, lt_of_le_of_lt, le_of_lt, mul-le-mul_right, mul-le-mul, mul-le-mul_left, mul-pos, sub-add_cancel, le_of_mul-le-mul_right, arith, lit<, lit≤}
use lib.Ieee.{Float, fin, binary32, mul, div, sub, of_bits}
use lib.Ieee.Exact.{HasValue}
use Rattle.series.proofs.EulerSums.{Sum, sum_relax}
use Rattle.series.proofs.ArctangentNearZero.{small_sum}
use Rattle.trig.specs.Arctangent.{atan_small}
use Rattle.trig.proofs.SmallPowers.{less_cube}

-- a is ±G of 2^-149, off by at most ε of them from the arctangent of p / q
pub record Arctan (a : Float) (p q ε : ℕ) : Type 0 where
  pub s : Bool
  pub G : ℕ
  pub value : HasValue a s G (2 ^ 149)
  pub y : ℕ
  pub fits : y + cond s G 0 ≡ cond s 0 G + ε
  pub sum : Sum (2 ^ 149) (cond s 0 G) (cond s G 0 + ε) y 40 p q

-- ---- below 2^-6
module _ (p q : ℕ) (h : p * 64 < q) where
  q_pos : 0 < q
  q_pos = lt_of_le_of_lt (omega arith) h

  -- x³ K / 3 against W
  cubed_high : (U X K E : ℕ) → 2 * (U * (q * q)) ≤ 2 * (p * p * K) + q * q * E → 2 * (X * q) ≤ 2 * (U * p) + q * E → 2 * (X * (q * q * q)) ≤ 2 * (p * p * p * K) + 2 * (q * q * q * E)
  cubed_high U X K E u x = go (mul-le-mul_right p u) (mul-le-mul_right (q * q) x) (mul-le-mul_left (q * q * E) (le_trans (omega arith) (le_of_lt h)))
    where
      go : 2 * (U * (q * q)) * p ≤ (2 * (p * p * K) + q * q * E) * p → 2 * (X * q) * (q * q) ≤ (2 * (U * p) + q * E) * (q * q) → q * q * E * p ≤ q * q * E * q → 2 * (X * (q * q * q)) ≤ 2 * (p * p * p * K) + 2 * (q * q * q * E)
      go a b c = omega arith

  cubed_low : (U X K E : ℕ) → 2 * (p * p * K) ≤ 2 * (U * (q * q)) + q * q * E → 2 * (U * p) ≤ 2 * (X * q) + q * E → 2 * (p * p * p * K) ≤ 2 * (X * (q * q * q)) + 2 * (q * q * q * E)
  cubed_low U X K E u x = go (mul-le-mul_right p u) (mul-le-mul_right (q * q) x) (mul-le-mul_left (q * q * E) (le_trans (omega arith) (le_of_lt h)))
    where
      go : 2 * (p * p * K) * p ≤ (2 * (U * (q * q)) + q * q * E) * p → 2 * (U * p) * (q * q) ≤ (2 * (X * q) + q * E) * (q * q) → q * q * E * p ≤ q * q * E * q → 2 * (p * p * p * K) ≤ 2 * (X * (q * q * q)) + 2 * (q * q * q * E)
      go a b c = omega arith

  -- the difference, times 6 q³: c is q³, z is p³ K and t is 6 p q² K
  star_high : (P M W X E c z t : ℕ) → 2 * z ≤ 2 * (X * c) + 2 * (c * E) → 2 * X ≤ 2 * (W * 3) + 3 * E → 6 * (P * c) + 6 * (W * c) ≤ 6 * (M * c) + t + 3 * (c * E) → 6 * (P * c) + 2 * z ≤ 6 * (M * c) + t + 8 * (c * E)
  star_high P M W X E c z t a b d = omega (arith, mul-le-mul_right c b)

  star_low : (P M W X E c z t : ℕ) → 2 * (X * c) ≤ 2 * z + 2 * (c * E) → 2 * (W * 3) ≤ 2 * X + 3 * E → 6 * (M * c) + t ≤ 6 * (P * c) + 6 * (W * c) + 3 * (c * E) → 6 * (M * c) + t ≤ 6 * (P * c) + 2 * z + 8 * (c * E)
  star_low P M W X E c z t a b d = omega (arith, mul-le-mul_right c b)

  times_high : (P M W K E : ℕ) → 2 * (P * q) + 2 * (W * q) ≤ 2 * (M * q) + 2 * (p * K) + q * E → 6 * (P * (q * q * q)) + 6 * (W * (q * q * q)) ≤ 6 * (M * (q * q * q)) + 6 * (p * (q * q) * K) + 3 * (q * q * q * E)
  times_high P M W K E d = omega (arith, mul-le-mul_right (3 * (q * q)) d)

  times_low : (P M W K E : ℕ) → 2 * (M * q) + 2 * (p * K) ≤ 2 * (P * q) + 2 * (W * q) + q * E → 6 * (M * (q * q * q)) + 6 * (p * (q * q) * K) ≤ 6 * (P * (q * q * q)) + 6 * (W * (q * q * q)) + 3 * (q * q * q * E)
  times_low P M W K E d = omega (arith, mul-le-mul_right (3 * (q * q)) d)

  -- p⁵ K is at most q⁵ E
  fifth : (K E : ℕ) → K ≡ 2 ^ 30 * E → p * (p * p * (p * p)) * K ≤ q * (q * q * (q * q)) * E
  fifth K E e = le_trans (le_of_eq (ap (λ (z : ℕ). p * (p * p * (p * p)) * z) e ∙ turn p E)) (mul-le-mul_right E (mul-le-mul (le_of_lt h) (mul-le-mul (mul-le-mul (le_of_lt h) (le_of_lt h)) (mul-le-mul (le_of_lt h) (le_of_lt h)))))
    where
      turn : (p E : ℕ) → p * (p * p * (p * p)) * (2 ^ 30 * E) ≡ p * 64 * (p * 64 * (p * 64) * (p * 64 * (p * 64))) * E
      turn p E = omega arith

  -- the sum's bounds, with f = q², g = q⁵, z = p³ K, x = p q⁴ K, v = p⁵ K
  least_fits : (P M K E f z v x g c t : ℕ) → g ≡ c * f → 6 * (x * 1) ≡ t * f → v ≤ g * E → 6 * (P * c) + 2 * z ≤ 6 * (M * c) + t + 8 * (c * E) → P * (3 * g) + (z * f + v) ≤ 3 * x + (M + 4 * E) * (3 * g)
  least_fits P M K E f z v x g c t e s k h = fin (mul-le-mul_right f h)
    where
      fin : (6 * (P * c) + 2 * z) * f ≤ (6 * (M * c) + t + 8 * (c * E)) * f → P * (3 * g) + (z * f + v) ≤ 3 * x + (M + 4 * E) * (3 * g)
      fin h = omega (arith, ap (λ (w : ℕ). P * w) e, ap (λ (w : ℕ). M * w) e, ap (λ (w : ℕ). E * w) e)

  most_fits : (P M K E f z v x g c t : ℕ) → g ≡ c * f → 6 * (x * 1) ≡ t * f → v ≤ g * E → 6 * (M * c) + t ≤ 6 * (P * c) + 2 * z + 8 * (c * E) → 3 * x + 3 * v + M * (3 * g) ≤ z * f + (P + 4 * E) * (3 * g)
  most_fits P M K E f z v x g c t e s k h = fin (mul-le-mul_right f h)
    where
      fin : (6 * (M * c) + t) * f ≤ (6 * (P * c) + 2 * z + 8 * (c * E)) * f → 3 * x + 3 * v + M * (3 * g) ≤ z * f + (P + 4 * E) * (3 * g)
      fin h = omega (arith, ap (λ (w : ℕ). P * w) e, ap (λ (w : ℕ). M * w) e, ap (λ (w : ℕ). E * w) e)

  -- what the difference says, as a sum of 40 terms
  from_difference : (a : Float) (s : Bool) (G U X W K E : ℕ) → 0 < K → K ≡ 2 ^ 30 * E → K ≡ 2 ^ 149 → HasValue a s G (2 ^ 149) → 2 * (U * (q * q)) ≤ 2 * (p * p * K) + q * q * E → 2 * (p * p * K) ≤ 2 * (U * (q * q)) + q * q * E →
      2 * (X * q) ≤ 2 * (U * p) + q * E → 2 * (U * p) ≤ 2 * (X * q) + q * E → 2 * (W * 3) ≤ 2 * X + 3 * E → 2 * X ≤ 2 * (W * 3) + 3 * E →
      2 * (cond s 0 G * q) + 2 * (W * q) ≤ 2 * (cond s G 0 * q) + 2 * (p * K) + q * E → 2 * (cond s G 0 * q) + 2 * (p * K) ≤ 2 * (cond s 0 G * q) + 2 * (W * q) + q * E → Arctan a p q (4 * E)
  from_difference a s G U X W K E kp e k v u u' x x' w w' d d' =
      let P = cond s 0 G in
      let M = cond s G 0 in
      let c = q * q * q in
      let f = q * q in
      let g = q * (q * q * (q * q)) in
      let z = p * p * p * K in
      let five = p * (p * p * (p * p)) in
      let hi = star_high P M W X E c z (6 * (p * (q * q) * K)) (cubed_low U X K E u' x') w' (times_high P M W K E d) in
      let lo = star_low P M W X E c z (6 * (p * (q * q) * K)) (cubed_high U X K E u x) w (times_low P M W K E d') in
      let M≤ : M ≤ P + 4 * E = le_of_mul-le-mul_right {k = c} (below P M E c z (6 * (p * (q * q) * K)) (third K) lo) (mul-pos (mul-pos q_pos q_pos) q_pos) in
      let y = 3 * (p * (q * q * (q * q))) + 3 * five - p * (p * p * (q * q)) in
      let ey : y + p * (p * p * (q * q)) ≡ 3 * (p * (q * q * (q * q))) + 3 * five = sub-add_cancel (less (p * (p * p * (q * q))) (p * (q * q * (q * q))) five fourth) in
      let y' = P + 4 * E - M in
      let ey' : y' + M ≡ P + 4 * E = sub-add_cancel M≤ in
      let lf = least_fits P M K E f z (five * K) (p * (q * q * (q * q)) * K) g c (6 * (p * (q * q) * K)) (same_g q) (same_t K) (fifth K E e) hi in
      let mf = most_fits P M K E f z (five * K) (p * (q * q * (q * q)) * K) g c (6 * (p * (q * q) * K)) (same_g q) (same_t K) (fifth K E e) lo in
      let S = sum_relax (3 * g) (3 * (p * (q * q * (q * q)))) (p * (p * p * (q * q)) + five) y K P (M + 4 * E) y' 40 p q (mul-pos (lit< tt) (mul-pos q_pos (mul-pos (mul-pos q_pos q_pos) (mul-pos q_pos q_pos))))
      (least_as P (M + 4 * E) K five g lf) (most_as P M y y' E K five g ey ey' mf) (small_sum p q y (le_trans (omega arith) (le_of_lt h)) ey) in
      record { s = s; G = G; value = v; y = y'; fits = ey'; sum = subst (λ (R : ℕ). Sum R P (M + 4 * E) y' 40 p q) k S }
    where
      third : (K : ℕ) → 2 * (p * p * p * K) ≤ 6 * (p * (q * q) * K)
      third K = go (mul-le-mul_right (p * K) (mul-le-mul {n₁ = p} {m₁ = p} {n₂ = q} {m₂ = q} (omega arith) (omega arith)))
        where
          go : p * p * (p * K) ≤ q * q * (p * K) → 2 * (p * p * p * K) ≤ 6 * (p * (q * q) * K)
          go h = omega arith

      below : (P M E c z t : ℕ) → 2 * z ≤ t → 6 * (M * c) + t ≤ 6 * (P * c) + 2 * z + 8 * (c * E) → M * c ≤ (P + 4 * E) * c
      below P M E c z t h l = omega arith

      fourth : p * (p * p * (q * q)) ≤ p * (q * q * (q * q))
      fourth = mul-le-mul_left p (mul-le-mul_right (q * q) (mul-le-mul {n₁ = p} {m₁ = p} {n₂ = q} {m₂ = q} (omega arith) (omega arith)))

      less : (w x v : ℕ) → w ≤ x → w ≤ 3 * x + 3 * v
      less w x v h = omega arith

      same_g : (q : ℕ) → q * (q * q * (q * q)) ≡ q * q * q * (q * q)
      same_g q = omega arith

      same_t : (K : ℕ) → 6 * (p * (q * q * (q * q)) * K * 1) ≡ 6 * (p * (q * q) * K) * (q * q)
      same_t K = omega arith

      least_as : (P M K five g : ℕ) → P * (3 * g) + (p * p * p * K * (q * q) + five * K) ≤ 3 * (p * (q * q * (q * q)) * K) + M * (3 * g) → P * (3 * g) + (p * (p * p * (q * q)) + five) * K ≤ 3 * (p * (q * q * (q * q))) * K + M * (3 * g)
      least_as P M K five g h = omega arith

      most_as : (P M y y' E K five g : ℕ) → y + p * (p * p * (q * q)) ≡ 3 * (p * (q * q * (q * q))) + 3 * five → y' + M ≡ P + 4 * E → 3 * (p * (q * q * (q * q)) * K) + 3 * (five * K) + M * (3 * g) ≤ p * p * p * K * (q * q) + (P + 4 * E) * (3 * g) → y * K ≤ y' * (3 * g)
      most_as P M y y' E K five g a b h = omega (arith, ap (λ (z : ℕ). z * K) a, ap (λ (z : ℕ). z * (3 * g)) b)

  pub small_arctan : (x : Float) → HasValue x false p q → Arctan (atan_small x) p q (4 * 2 ^ 119)
  unfolding atan_small of_bits
  small_arctan x v =
      let L = less_cube x false p q 3 (pos 0) 3 v h (lit< tt) refl refl (lit≤ tt) in
      let c = L.cubed in
      let w = div binary32 (mul binary32 (mul binary32 x x) x) (fin false 3 (pos 0)) in
      from_difference (sub binary32 x w) L.t L.G c.U c.X c.W (2 ^ 149) (2 ^ 119) (lit< tt) refl refl L.value c.square_high c.square_low c.cube_high c.cube_low c.third_high c.third_low L.high L.low
