-- Squares, cubes and x - x³/n of numbers below 2^-6, rounded. K is 2^149, and E, 2^-30 of it, is 2^119: what rounding below 2^-6 leaves is at most half of E.
use Rattle.std.proofs.Common.{◌≡◌, ℕ, ◌+◌, ◌*◌, ◌^◌, ◌<◌, ◌≤◌, Bool, true, false, cond, ℤ, sym, refl, ap, ◌∙◌, subst, le_trans, le_of_eq, lt_of_lt_of_le, lt_of_le_of_lt, le_of_lt, mul-le-mul_right, mul_comm, mul-le-mul, mul-le-mul_left, mul-lt-mul_of_pos_right, mul-pos, one-mul, le_of_mul-le-mul_right, arith, lit<, lit≤, ltb-true}
use lib.Ieee.{Float, fin, binary32, up, down, round, neg, mul, div, sub, lt, unlike, of_bits}
use lib.Ieee.Exact.{HasValue}
use Rattle.trig.specs.Sine.{sixty_fourth}
use Rattle.laws.proofs.Product.{unlike_plain}
use Rattle.laws.proofs.RoundedValues.{mul_value, div_value, Rounded, rounded, subtracted}

pub small_size : (m : ℕ) (e : ℤ) → lt (fin false m e) sixty_fourth ≡ true → m * up e * 64 < down e
unfolding lt of_bits
small_size m e h = go (m * up e) (down e) (ltb-true (m * up e * 2 ^ 6) (1 * 1 * down e) h)
  where
    go : (a d : ℕ) → a * 2 ^ 6 < 1 * 1 * d → a * 64 < d
    go a d h = omega arith

pub under : (a c : ℕ) → a * 64 < c → a * 2 ^ 149 < 2 ^ 24 * 2 ^ 119 * c
under a c h = go (2 ^ 143) (2 ^ 149) (lit< tt) refl
  where
    go : (k K : ℕ) → 0 < k → K ≡ 64 * k → a * K < k * c
    go k K p e = rw e (lt_of_le_of_lt (le_of_eq (turn k)) (lt_of_lt_of_le (mul-lt-mul_of_pos_right h p) (le_of_eq (swap k))))
      where
        turn : (k : ℕ) → a * (64 * k) ≡ a * 64 * k
        turn k = omega arith

        swap : (k : ℕ) → c * k ≡ k * c
        swap k = omega arith

-- a fraction below 2^-6, rounded
pub below_64 : (s : Bool) (a c : ℕ) → a * 64 < c → Rounded (round binary32 s a c) s a c (2 ^ 119)
below_64 s a c h = rounded s a c 143 (lt_of_le_of_lt (omega arith) h) (lit≤ tt) (lit≤ tt) (under a c h)

same_sign : (s : Bool) → unlike s s ≡ false
same_sign true = refl
same_sign false = refl

keep_right : (s : Bool) → unlike false s ≡ s
keep_right true = refl
keep_right false = refl

-- 64 p below q: and their squares
squares : (p q : ℕ) → p * 64 < q → p * p * 64 < q * q
squares p q h = lt_of_le_of_lt (le_trans (le_of_eq (turn p)) (mul-le-mul_left p (le_of_lt h))) (mul-lt-mul_of_pos_right {m = p} {n = q} {k = q} (omega arith) (omega arith))
  where
    turn : (p : ℕ) → p * p * 64 ≡ p * (p * 64)
    turn p = omega arith

-- ---- a·a
pub record Square (u : Float) (p q K E : ℕ) : Type 0 where
  pub U : ℕ
  pub value : HasValue u false U (2 ^ 149)
  pub high : 2 * (U * (q * q)) ≤ 2 * (p * p * K) + q * q * E
  pub low : 2 * (p * p * K) ≤ 2 * (U * (q * q)) + q * q * E

pub square : (x : Float) (s : Bool) (p q : ℕ) → HasValue x s p q → p * 64 < q → Square (mul binary32 x x) p q (2 ^ 149) (2 ^ 119)
square x s p q v h =
    let qp : 0 < q = lt_of_le_of_lt (omega arith) h in
    let e = mul_value x x s s p q p q qp qp v v ∙ ap (λ (z : Bool). round binary32 z (p * p) (q * q)) (same_sign s) in
    let R = below_64 false (p * p) (q * q) (squares p q h) in
    record { U = R.G; value = subst (λ (z : Float). HasValue z false R.G (2 ^ 149)) (sym e) R.value; high = R.high; low = R.low }

-- 4,096 U is at most K and 2,048 E
pub square_small : (p q U K E : ℕ) → p * 64 < q → 2 * (U * (q * q)) ≤ 2 * (p * p * K) + q * q * E → 4096 * U ≤ K + 2048 * E
square_small p q U K E h k = le_of_mul-le-mul_right {k = q * q} (go (mul-le-mul_right K (mul-le-mul (le_of_lt h) (le_of_lt h))) k) (mul-pos {m = q} {n = q} (omega arith) (omega arith))
  where
    go : p * 64 * (p * 64) * K ≤ q * q * K → 2 * (U * (q * q)) ≤ 2 * (p * p * K) + q * q * E → 4096 * U * (q * q) ≤ (K + 2048 * E) * (q * q)
    go h k = omega arith

-- ---- the cube over n: a·a·a/n
pub record Cube (w : Float) (s : Bool) (p q n K E : ℕ) : Type 0 where
  pub U : ℕ
  pub X : ℕ
  pub W : ℕ
  pub value : HasValue w s W (2 ^ 149)
  pub square_high : 2 * (U * (q * q)) ≤ 2 * (p * p * K) + q * q * E
  pub square_low : 2 * (p * p * K) ≤ 2 * (U * (q * q)) + q * q * E
  pub cube_high : 2 * (X * q) ≤ 2 * (U * p) + q * E
  pub cube_low : 2 * (U * p) ≤ 2 * (X * q) + q * E
  pub third_high : 2 * (W * n) ≤ 2 * X + n * E
  pub third_low : 2 * X ≤ 2 * (W * n) + n * E
  pub square_bound : 4096 * U ≤ K + 2048 * E
  pub cube_bound : 128 * X ≤ 2 * U + 64 * E

cancel : (x y z K : ℕ) → 0 < K → x * K ≤ y * K + z * K → x ≤ y + z
cancel x y z K p h = le_of_mul-le-mul_right {k = K} (le_trans h (le_of_eq (out y z))) p
  where
    out : (y z : ℕ) → y * K + z * K ≡ (y + z) * K
    out y z = omega arith

pub cube : (x : Float) (s : Bool) (p q : ℕ) (k : ℕ) (d : ℤ) (n : ℕ) → HasValue x s p q → p * 64 < q → 0 < k → down d ≡ 1 → k * up d ≡ n → 1 ≤ n → Cube (div binary32 (mul binary32 (mul binary32 x x) x) (fin false k d)) s p q n (2 ^ 149) (2 ^ 119)
cube x s p q k d n v h kp d1 kn np =
    let K = 2 ^ 149 in
    let E = 2 ^ 119 in
    let qp : 0 < q = lt_of_le_of_lt (omega arith) h in
    let u = square x s p q v h in
    let U≤ = square_small p q u.U K E h u.high in
    let ev = mul_value (mul binary32 x x) x false s u.U K p q (lit< tt) qp u.value v ∙ ap (λ (z : Bool). round binary32 z (u.U * p) (K * q)) (keep_right s) in
    let R = below_64 s (u.U * p) (K * q) (product u.U K E (lit< tt) refl U≤) in
    let vv : HasValue (mul binary32 (mul binary32 x x) x) s R.G K = subst (λ (z : Float). HasValue z s R.G K) (sym ev) R.value in
    let X≤ = X-bound u.U R.G K E (lit< tt) refl U≤ R.high in
    let ew = div_value (mul binary32 (mul binary32 x x) x) s R.G K k d (lit< tt) kp vv ∙ ap (λ (z : Bool). round binary32 z (R.G * down d) (k * up d * K)) (unlike_plain s) ∙ ap (λ (z : ℕ). round binary32 s (R.G * z) (k * up d * K)) d1 ∙ ap (λ (z : ℕ). round binary32 s (R.G * 1) (z * K)) kn in
    let S = below_64 s (R.G * 1) (n * K) (quotient u.U R.G K E U≤ X≤ refl (lit< tt)) in
    record {
      U = u.U;
      X = R.G;
      W = S.G;
      value = subst (λ (z : Float). HasValue z s S.G K) (sym ew) S.value;
      square_high = u.high;
      square_low = u.low;
      cube_high = cancel (2 * (R.G * q)) (2 * (u.U * p)) (q * E) K (lit< tt) (v_high R.G u.U K E R.high);
      cube_low = cancel (2 * (u.U * p)) (2 * (R.G * q)) (q * E) K (lit< tt) (v_low R.G u.U K E R.low);
      third_high = cancel (2 * (S.G * n)) (2 * R.G) (n * E) K (lit< tt) (w_high S.G R.G K E S.high);
      third_low = cancel (2 * R.G) (2 * (S.G * n)) (n * E) K (lit< tt) (w_low S.G R.G K E S.low);
      square_bound = U≤;
      cube_bound = X≤;
    }
  where
    product : (U K E : ℕ) → 0 < E → K ≡ 2 ^ 30 * E → 4096 * U ≤ K + 2048 * E → U * p * 64 < K * q
    product U K E ep e l = lt_of_le_of_lt (le_trans (le_of_eq (turn U)) (mul-le-mul_right (p * 64) (omega arith))) (flip K (omega arith))
      where
        turn : (U : ℕ) → U * p * 64 ≡ U * (p * 64)
        turn U = omega arith

        flip : (K : ℕ) → 0 < K → K * (p * 64) < K * q
        flip K kp = subst (λ (z : ℕ). z < K * q) (mul_comm (p * 64) K) (subst (λ (z : ℕ). p * 64 * K < z) (mul_comm q K) (mul-lt-mul_of_pos_right h kp))

    v_high : (X U K E : ℕ) → 2 * (X * (K * q)) ≤ 2 * (U * p * K) + K * q * E → 2 * (X * q) * K ≤ 2 * (U * p) * K + q * E * K
    v_high X U K E h = omega arith

    v_low : (X U K E : ℕ) → 2 * (U * p * K) ≤ 2 * (X * (K * q)) + K * q * E → 2 * (U * p) * K ≤ 2 * (X * q) * K + q * E * K
    v_low X U K E h = omega arith

    w_high : (W X K E : ℕ) → 2 * (W * (n * K)) ≤ 2 * (X * 1 * K) + n * K * E → 2 * (W * n) * K ≤ 2 * X * K + n * E * K
    w_high W X K E h = omega arith

    w_low : (W X K E : ℕ) → 2 * (X * 1 * K) ≤ 2 * (W * (n * K)) + n * K * E → 2 * X * K ≤ 2 * (W * n) * K + n * E * K
    w_low W X K E h = omega arith

    X-bound : (U X K E : ℕ) → 0 < K → K ≡ 2 ^ 30 * E → 4096 * U ≤ K + 2048 * E → 2 * (X * (K * q)) ≤ 2 * (U * p * K) + K * q * E → 128 * X ≤ 2 * U + 64 * E
    X-bound U X K E kp e l k = le_of_mul-le-mul_right {k = q} (go (cancel (2 * (X * q)) (2 * (U * p)) (q * E) K kp (v_high X U K E k)) (mul-le-mul_left U (le_of_lt h))) (lt_of_le_of_lt (omega arith) h)
      where
        go : 2 * (X * q) ≤ 2 * (U * p) + q * E → U * (p * 64) ≤ U * q → 128 * X * q ≤ (2 * U + 64 * E) * q
        go h k = omega arith

    quotient : (U X K E : ℕ) → 4096 * U ≤ K + 2048 * E → 128 * X ≤ 2 * U + 64 * E → K ≡ 2 ^ 30 * E → 0 < E → X * 1 * 64 < n * K
    quotient U X K E l k e ep = lt_of_lt_of_le (go U X K E l k e ep) (le_trans (le_of_eq (sym (one-mul K))) (mul-le-mul_right K np))
      where
        go : (U X K E : ℕ) → 4096 * U ≤ K + 2048 * E → 128 * X ≤ 2 * U + 64 * E → K ≡ 2 ^ 30 * E → 0 < E → X * 1 * 64 < K
        go U X K E l k e ep = omega arith

-- ---- x - x³/n, turned by x's sign s
pub record LessCube (r w : Float) (s : Bool) (p q n K E : ℕ) : Type 0 where
  pub cubed : Cube w s p q n K E
  pub t : Bool
  pub G : ℕ
  pub value : HasValue r t G (2 ^ 149)
  pub high : 2 * (cond t 0 G * q) + 2 * (cubed.W * q) ≤ 2 * (cond t G 0 * q) + 2 * (p * K) + q * E
  pub low : 2 * (cond t G 0 * q) + 2 * (p * K) ≤ 2 * (cond t 0 G * q) + 2 * (cubed.W * q) + q * E

pub less_cube : (x : Float) (s : Bool) (p q : ℕ) (k : ℕ) (d : ℤ) (n : ℕ) → HasValue x s p q → p * 64 < q → 0 < k → down d ≡ 1 → k * up d ≡ n → 1 ≤ n → let w = div binary32 (mul binary32 (mul binary32 x x) x) (fin false k d) in
    LessCube (cond s (neg (sub binary32 x w)) (sub binary32 x w)) w s p q n (2 ^ 149) (2 ^ 119)
less_cube x s p q k d n v h kp d1 kn np =
    let K = 2 ^ 149 in
    let c = cube x s p q k d n v h kp d1 kn np in
    let qp : 0 < q = lt_of_le_of_lt (omega arith) h in
    let D = subtracted x (div binary32 (mul binary32 (mul binary32 x x) x) (fin false k d)) s p q c.W K 143 qp (lit< tt) v c.value (lit≤ tt) (lit≤ tt) (under (p * K) (q * K) (first K (lit< tt))) (under (c.W * q) (q * K) (second c.W K qp (third_small c.U c.X c.W K (2 ^ 119) (lit< tt) refl c.square_bound c.cube_bound c.third_high))) in
    record {
      cubed = c;
      t = D.t;
      G = D.G;
      value = D.value;
      high = le_of_mul-le-mul_right {k = K} (cut (cond D.t 0 D.G) (cond D.t D.G 0) c.W K (2 ^ 119) D.high) (lit< tt);
      low = le_of_mul-le-mul_right {k = K} (cut' (cond D.t 0 D.G) (cond D.t D.G 0) c.W K (2 ^ 119) D.low) (lit< tt);
    }
  where
    first : (K : ℕ) → 0 < K → p * K * 64 < q * K
    first K kp = lt_of_le_of_lt (le_of_eq (turn K)) (mul-lt-mul_of_pos_right h kp)
      where
        turn : (K : ℕ) → p * K * 64 ≡ p * 64 * K
        turn K = omega arith

    third_small : (U X W K E : ℕ) → 0 < E → K ≡ 2 ^ 30 * E → 4096 * U ≤ K + 2048 * E → 128 * X ≤ 2 * U + 64 * E → 2 * (W * n) ≤ 2 * X + n * E → W * 64 < K
    third_small U X W K E ep e u x w = go (le_of_mul-le-mul_right {k = n} (times w (mul-le-mul_left (2 * X) np)) np)
      where
        times : 2 * (W * n) ≤ 2 * X + n * E → 2 * X * 1 ≤ 2 * X * n → 2 * W * n ≤ (2 * X + E) * n
        times h k = omega arith

        go : 2 * W ≤ 2 * X + E → W * 64 < K
        go k = omega arith

    second : (W K : ℕ) → 0 < q → W * 64 < K → W * q * 64 < q * K
    second W K qp w = lt_of_le_of_lt (le_of_eq (turn W)) (lt_of_lt_of_le (mul-lt-mul_of_pos_right w qp) (le_of_eq (mul_comm K q)))
      where
        turn : (W : ℕ) → W * q * 64 ≡ W * 64 * q
        turn W = omega arith

    cut : (P M W K E : ℕ) → 2 * (P * (q * K)) + 2 * (W * q * K) ≤ 2 * (M * (q * K)) + 2 * (p * K * K) + q * K * E → (2 * (P * q) + 2 * (W * q)) * K ≤ (2 * (M * q) + 2 * (p * K) + q * E) * K
    cut P M W K E h = omega arith

    cut' : (P M W K E : ℕ) → 2 * (M * (q * K)) + 2 * (p * K * K) ≤ 2 * (P * (q * K)) + 2 * (W * q * K) + q * K * E → (2 * (M * q) + 2 * (p * K)) * K ≤ (2 * (P * q) + 2 * (W * q) + q * E) * K
    cut' P M W K E h = omega arith
