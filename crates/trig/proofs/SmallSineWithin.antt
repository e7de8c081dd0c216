-- Below 2^-6 sine and cosine lie within 2^-20 of the sums of their series. K is 2^149 and E is 2^119, as in `SmallPowers`.
use Rattle.std.proofs.Common.{◌≡◌, ℕ, ◌+◌, ◌*◌, ◌^◌, ◌<◌, ◌≤◌, Bool, false, cond, pos, sym, refl, ap, subst, le_trans, le_of_eq, lt_of_lt_of_le, lt_of_le_of_lt, le_of_lt, mul-le-mul_right, mul-le-mul, mul-lt-mul_of_pos_right, mul-pos, le_of_mul-le-mul_right, arith, lit<, lit≤}
use lib.Ieee.{Float, fin, binary32, mul, div, sub, neg, of_bits}
use lib.Ieee.Exact.{HasValue}
use Rattle.series.specs.Series.{sin_term, cos_term}
use Rattle.series.proofs.AlternatingSums.{AtLeast, AtMost, Bracketed, bracketed, pairs, pairs_on, relax_least, relax_most}
use Rattle.series.proofs.SineNearZero.{sine_least, sine_most, cosine_least, cosine_most}
use Rattle.trig.specs.Sine.{sin_small, cos_small}
use Rattle.trig.specs.Accuracy.{SumsWithin}
use Rattle.trig.proofs.NearValue.{sums_within}
use Rattle.laws.proofs.RoundedValues.{div_value, subtracted}
use Rattle.trig.proofs.SmallPowers.{square, square_small, less_cube, below_64}

module _ (p q : ℕ) (h : p * 64 < q) where
  q_pos : 0 < q
  q_pos = lt_of_le_of_lt (omega arith) h

  at_most_one : p ≤ q
  at_most_one = omega arith

  -- ---- the sine: between x - 11 · 2^-24 and x
  cubes : 2 ^ 18 * (p * p * p) ≤ q * q * q
  cubes = le_trans (le_of_eq (turn p)) (mul-le-mul (mul-le-mul (le_of_lt h) (le_of_lt h)) (le_of_lt h))
    where
      turn : (p : ℕ) → 2 ^ 18 * (p * p * p) ≡ p * 64 * (p * 64) * (p * 64)
      turn p = omega arith

  sine_ends : Bracketed sin_term (2 ^ 24 * q) (2 ^ 24 * p) (11 * q) 0 (2 ^ 24 * p) p q
  sine_ends =
      bracketed sin_term (2 ^ 24 * q) (2 ^ 24 * p) (11 * q) 0 (2 ^ 24 * p) p q
      (λ i. subst (λ (k : ℕ). AtLeast sin_term (2 ^ 24 * q) (2 ^ 24 * p) (11 * q) k p q) (pairs_on 2 15 i)
      (relax_least sin_term p q (6 * (q * q * q)) (6 * (p * q * q)) (p * p * p) (2 ^ 24 * q) (2 ^ 24 * p) (11 * q) (pairs 2 (15 + i)) (mul-pos (lit< tt) (mul-pos (mul-pos q_pos q_pos) q_pos)) (go (p * p * p) (mul-le-mul_right q cubes)) (sine_least p q at_most_one (15 + i))))
      (λ i. subst (λ (k : ℕ). AtMost sin_term (2 ^ 24 * q) 0 (2 ^ 24 * p) k p q) (pairs_on 1 16 i)
      (relax_most sin_term p q q 0 p (2 ^ 24 * q) 0 (2 ^ 24 * p) (pairs 1 (16 + i)) q_pos (omega arith) (sine_most p q at_most_one (16 + i))))
    where
      go : (c : ℕ) → 2 ^ 18 * c * q ≤ q * q * q * q → 2 ^ 24 * p * (6 * (q * q * q)) + c * (2 ^ 24 * q) ≤ 6 * (p * q * q) * (2 ^ 24 * q) + 11 * q * (6 * (q * q * q))
      go c h = omega arith

  -- the cube over 6 is at most 11 · 2^-24
  cube_small : (U X W K E : ℕ) → K ≡ 2 ^ 30 * E → 4096 * U ≤ K + 2048 * E → 128 * X ≤ 2 * U + 64 * E → 2 * (W * 6) ≤ 2 * X + 6 * E → 2 ^ 24 * W ≤ 11 * K
  cube_small U X W K E e u x w = omega arith

  sine_inside : (P M W K E : ℕ) → K ≡ 2 ^ 30 * E → 2 ^ 24 * W ≤ 11 * K → 2 * (P * q) + 2 * (W * q) ≤ 2 * (M * q) + 2 * (p * K) + q * E → 2 * (M * q) + 2 * (p * K) ≤ 2 * (P * q) + 2 * (W * q) + q * E →
      (2 ^ 20 * P * (2 ^ 24 * q) + 11 * q * (2 ^ 20 * K) ≤ 2 ^ 24 * p * (2 ^ 20 * K) + (2 ^ 20 * M + K) * (2 ^ 24 * q)) × (2 ^ 20 * M * (2 ^ 24 * q) + 2 ^ 24 * p * (2 ^ 20 * K) ≤ 0 * (2 ^ 20 * K) + (2 ^ 20 * P + K) * (2 ^ 24 * q))
  sine_inside P M W K E e w u l = (high u, low l (mul-le-mul_right q w))
    where
      high : 2 * (P * q) + 2 * (W * q) ≤ 2 * (M * q) + 2 * (p * K) + q * E → 2 ^ 20 * P * (2 ^ 24 * q) + 11 * q * (2 ^ 20 * K) ≤ 2 ^ 24 * p * (2 ^ 20 * K) + (2 ^ 20 * M + K) * (2 ^ 24 * q)
      high h = omega (arith, ap (λ (z : ℕ). z * q) e)

      low : 2 * (M * q) + 2 * (p * K) ≤ 2 * (P * q) + 2 * (W * q) + q * E → 2 ^ 24 * W * q ≤ 11 * K * q → 2 ^ 20 * M * (2 ^ 24 * q) + 2 ^ 24 * p * (2 ^ 20 * K) ≤ 0 * (2 ^ 20 * K) + (2 ^ 20 * P + K) * (2 ^ 24 * q)
      low h k = omega (arith, ap (λ (z : ℕ). z * q) e)

  pub sine_near : (x : Float) (s : Bool) → HasValue x s p q → SumsWithin sin_term p q (cond s (neg (sin_small x)) (sin_small x))
  unfolding sin_small of_bits
  sine_near x s v =
      let K = 2 ^ 149 in
      let E = 2 ^ 119 in
      let L = less_cube x s p q 3 (pos 1) 6 v h (lit< tt) refl refl (lit≤ tt) in
      let c = L.cubed in
      let w = div binary32 (mul binary32 (mul binary32 x x) x) (fin false 3 (pos 1)) in
      let i = sine_inside (cond L.t 0 L.G) (cond L.t L.G 0) c.W K E refl (cube_small c.U c.X c.W K E refl c.square_bound c.cube_bound c.third_high) L.high L.low in
      sums_within sin_term p q (2 ^ 24 * q) (2 ^ 24 * p) (11 * q) 0 (2 ^ 24 * p) (cond s (neg (sub binary32 x w)) (sub binary32 x w)) L.t L.G K (mul-pos (lit< tt) q_pos) (lit< tt) L.value sine_ends (record { low = i.0; high = i.1 })

  -- ---- the cosine: between 1 - x²/2 and 2^-24 more
  cosine_ends : Bracketed cos_term (2 ^ 25 * (q * q)) (2 ^ 25 * (q * q)) (2 ^ 24 * (p * p)) (2 ^ 24 * (p * p)) (2 ^ 25 * (q * q) + 2 * (q * q)) p q
  cosine_ends =
      bracketed cos_term (2 ^ 25 * (q * q)) (2 ^ 25 * (q * q)) (2 ^ 24 * (p * p)) (2 ^ 24 * (p * p)) (2 ^ 25 * (q * q) + 2 * (q * q)) p q
      (λ i. subst (λ (k : ℕ). AtLeast cos_term (2 ^ 25 * (q * q)) (2 ^ 25 * (q * q)) (2 ^ 24 * (p * p)) k p q) (pairs_on 2 15 i)
      (relax_least cos_term p q (2 * (q * q)) (2 * (q * q)) (p * p) (2 ^ 25 * (q * q)) (2 ^ 25 * (q * q)) (2 ^ 24 * (p * p)) (pairs 2 (15 + i)) (mul-pos (lit< tt) (mul-pos q_pos q_pos)) (low (p * p) (q * q)) (cosine_least p q at_most_one (15 + i))))
      (λ i. subst (λ (k : ℕ). AtMost cos_term (2 ^ 25 * (q * q)) (2 ^ 24 * (p * p)) (2 ^ 25 * (q * q) + 2 * (q * q)) k p q) (pairs_on 3 15 i)
      (relax_most cos_term p q (24 * (q * q * (q * q))) (12 * (p * p * (q * q))) (24 * (q * q * (q * q)) + p * p * (p * p)) (2 ^ 25 * (q * q)) (2 ^ 24 * (p * p)) (2 ^ 25 * (q * q) + 2 * (q * q)) (pairs 3 (15 + i)) (mul-pos (lit< tt) (mul-pos (mul-pos q_pos q_pos) (mul-pos q_pos q_pos))) (high (p * p) (q * q) fourth) (cosine_most p q at_most_one (15 + i))))
    where
      low : (P Q : ℕ) → 2 ^ 25 * Q * (2 * Q) + P * (2 ^ 25 * Q) ≤ 2 * Q * (2 ^ 25 * Q) + 2 ^ 24 * P * (2 * Q)
      low P Q = omega arith

      fourth : 4096 * (p * p) ≤ q * q
      fourth = le_trans (le_of_eq (turn p)) (mul-le-mul (le_of_lt h) (le_of_lt h))
        where
          turn : (p : ℕ) → 4096 * (p * p) ≡ p * 64 * (p * 64)
          turn p = omega arith

      high : (P Q : ℕ) → 4096 * P ≤ Q → 2 ^ 24 * P * (24 * (Q * Q)) + (24 * (Q * Q) + P * P) * (2 ^ 25 * Q) ≤ 12 * (P * Q) * (2 ^ 25 * Q) + (2 ^ 25 * Q + 2 * Q) * (24 * (Q * Q))
      high P Q h = omega (arith, mul-le-mul_right Q (mul-le-mul h h))

  cosine_inside : (P M U W K E : ℕ) → 0 < K → K ≡ 2 ^ 30 * E → 2 * (U * (q * q)) ≤ 2 * (p * p * K) + q * q * E → 2 * (p * p * K) ≤ 2 * (U * (q * q)) + q * q * E → 4 * W ≤ 2 * U + 2 * E → 2 * U ≤ 4 * W + 2 * E →
      2 * P + 2 * W ≤ 2 * M + 2 * K + 2 ^ 7 * E → 2 * M + 2 * K ≤ 2 * P + 2 * W + 2 ^ 7 * E →
      (2 ^ 20 * P * (2 ^ 25 * (q * q)) + 2 ^ 24 * (p * p) * (2 ^ 20 * K) ≤ 2 ^ 25 * (q * q) * (2 ^ 20 * K) + (2 ^ 20 * M + K) * (2 ^ 25 * (q * q))) ×
      (2 ^ 20 * M * (2 ^ 25 * (q * q)) + (2 ^ 25 * (q * q) + 2 * (q * q)) * (2 ^ 20 * K) ≤ 2 ^ 24 * (p * p) * (2 ^ 20 * K) + (2 ^ 20 * P + K) * (2 ^ 25 * (q * q)))
  cosine_inside P M U W K E kp e u u' w w' r r' = go (p * p) (q * q) u u'
    where
      go : (X Q : ℕ) → 2 * (U * Q) ≤ 2 * (X * K) + Q * E → 2 * (X * K) ≤ 2 * (U * Q) + Q * E →
          (2 ^ 20 * P * (2 ^ 25 * Q) + 2 ^ 24 * X * (2 ^ 20 * K) ≤ 2 ^ 25 * Q * (2 ^ 20 * K) + (2 ^ 20 * M + K) * (2 ^ 25 * Q)) × (2 ^ 20 * M * (2 ^ 25 * Q) + (2 ^ 25 * Q + 2 * Q) * (2 ^ 20 * K) ≤ 2 ^ 24 * X * (2 ^ 20 * K) + (2 ^ 20 * P + K) * (2 ^ 25 * Q))
      go X Q a b = (omega (arith, mul-le-mul_right Q r, mul-le-mul_right Q w', ap (λ (z : ℕ). z * Q) e), omega (arith, mul-le-mul_right Q r', mul-le-mul_right Q w, ap (λ (z : ℕ). z * Q) e))

  pub cosine_near : (x : Float) (s : Bool) → HasValue x s p q → SumsWithin cos_term p q (cos_small x)
  unfolding cos_small of_bits
  cosine_near x s v =
      let K = 2 ^ 149 in
      let E = 2 ^ 119 in
      let u = square x s p q v h in
      let U≤ = square_small p q u.U K E h u.high in
      let w = div binary32 (mul binary32 x x) (fin false 1 (pos 1)) in
      let S = below_64 false (u.U * 1) (2 * K) (half u.U K E refl (lit< tt) U≤) in
      let W = S.G in
      let vw : HasValue w false W K = subst (λ (z : Float). HasValue z false W K) (sym (div_value (mul binary32 x x) false u.U K 1 (pos 1) (lit< tt) (lit< tt) u.value)) S.value in
      let w₁ = le_of_mul-le-mul_right {k = K} (w_high W u.U K E S.high) (lit< tt) in
      let w₂ = le_of_mul-le-mul_right {k = K} (w_low W u.U K E S.low) (lit< tt) in
      let D = subtracted (fin false 1 (pos 0)) w false 1 1 W K 150 (lit< tt) (lit< tt) (refl, refl) vw (lit≤ tt) (lit≤ tt) (lit< tt) (less u.U W K E (2 ^ 149) (2 ^ 150) (lit< tt) refl refl refl U≤ w₁) in
      let i = cosine_inside (cond D.t 0 D.G) (cond D.t D.G 0) u.U W K E (lit< tt) refl u.high u.low w₁ w₂ (le_of_mul-le-mul_right {k = K} (d_high (cond D.t 0 D.G) (cond D.t D.G 0) W K E (2 ^ 126) refl D.high) (lit< tt)) (le_of_mul-le-mul_right {k = K} (d_low (cond D.t 0 D.G) (cond D.t D.G 0) W K E (2 ^ 126) refl D.low) (lit< tt)) in
      sums_within cos_term p q (2 ^ 25 * (q * q)) (2 ^ 25 * (q * q)) (2 ^ 24 * (p * p)) (2 ^ 24 * (p * p)) (2 ^ 25 * (q * q) + 2 * (q * q)) (sub binary32 (fin false 1 (pos 0)) w) D.t D.G K (mul-pos (lit< tt) (mul-pos q_pos q_pos)) (lit< tt) D.value cosine_ends (record { low = i.0; high = i.1 })
    where
      half : (U K E : ℕ) → K ≡ 2 ^ 30 * E → 0 < E → 4096 * U ≤ K + 2048 * E → U * 1 * 64 < 2 * K
      half U K E e ep h = omega arith

      w_high : (W U K E : ℕ) → 2 * (W * (2 * K)) ≤ 2 * (U * 1 * K) + 2 * K * E → 4 * W * K ≤ (2 * U + 2 * E) * K
      w_high W U K E h = omega arith

      w_low : (W U K E : ℕ) → 2 * (U * 1 * K) ≤ 2 * (W * (2 * K)) + 2 * K * E → 2 * U * K ≤ (4 * W + 2 * E) * K
      w_low W U K E h = omega arith

      less : (U W K E J L : ℕ) → 0 < E → K ≡ 2 ^ 30 * E → J ≡ K → L ≡ 2 * K → 4096 * U ≤ K + 2048 * E → 4 * W ≤ 2 * U + 2 * E → W * 1 * J < L * (1 * K)
      less U W K E J L ep e j l h k = rw (j, l) (lt_of_le_of_lt (le_of_eq (turn W K)) (lt_of_lt_of_le (mul-lt-mul_of_pos_right {m = W} {n = K} {k = K} (omega arith) (omega arith)) (more K)))
        where
          turn : (W K : ℕ) → W * 1 * K ≡ W * K
          turn W K = omega arith

          more : (K : ℕ) → K * K ≤ 2 * K * (1 * K)
          more K = omega arith

      d_high : (P M W K E F : ℕ) → F ≡ 2 ^ 7 * E → 2 * (P * (1 * K)) + 2 * (W * 1 * K) ≤ 2 * (M * (1 * K)) + 2 * (1 * K * K) + 1 * K * F → (2 * P + 2 * W) * K ≤ (2 * M + 2 * K + 2 ^ 7 * E) * K
      d_high P M W K E F f h = omega (arith, ap (λ (z : ℕ). z * K) f)

      d_low : (P M W K E F : ℕ) → F ≡ 2 ^ 7 * E → 2 * (M * (1 * K)) + 2 * (1 * K * K) ≤ 2 * (P * (1 * K)) + 2 * (W * 1 * K) + 1 * K * F → (2 * M + 2 * K) * K ≤ (2 * P + 2 * W + 2 ^ 7 * E) * K
      d_low P M W K E F f h = omega (arith, ap (λ (z : ℕ). z * K) f)
