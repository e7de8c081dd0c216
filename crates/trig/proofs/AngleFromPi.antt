-- An f32 less an angle, as π - a and π/2 - a are, rounded. K is 2^149 and E is 2^119.
use Rattle.std.proofs.Common.{◌≡◌, ℕ, ◌+◌, ◌-◌, ◌*◌, ◌^◌, ◌<◌, ◌≤◌, Bool, true, false, cond, T, sym, ap, subst, le_of_eq, lt_of_le_of_lt, mul-lt-mul_of_pos_right, mul-pos, le_of_mul-le-mul_right, arith, lit<}
use lib.Ieee.{Float, nan, inf, fin, binary32, up, down, round, sub, add, sum, neg}
use lib.Ieee.Exact.{HasValue}
use lib.Ieee.Fits.{down_pos}
use lib.Ieee.Scale.{round_same}
use Rattle.laws.proofs.RoundedValues.{rounded, subtracted}

-- r is N - (X - Y), rounded: off by at most half of w
pub record Less (r : Float) (N X Y w : ℕ) : Type 0 where
  pub t : Bool
  pub G : ℕ
  pub value : HasValue r t G (2 ^ 149)
  pub high : 2 * cond t 0 G + 2 * X ≤ 2 * cond t G 0 + 2 * Y + 2 * N + w
  pub low : 2 * cond t G 0 + 2 * Y + 2 * N ≤ 2 * cond t 0 G + 2 * X + w

cut_high : (P M N G K w : ℕ) → 0 < K * K → 2 * (P * (K * K)) + 2 * (G * K * K) ≤ 2 * (M * (K * K)) + 2 * (N * K * K) + K * K * w → 2 * P + 2 * G ≤ 2 * M + 2 * 0 + 2 * N + w
cut_high P M N G K w p h = le_of_mul-le-mul_right {k = K * K} (go (K * K) (G * K * K) (N * K * K) (turn G) (turn N) h) p
  where
    turn : (G : ℕ) → G * K * K ≡ G * (K * K)
    turn G = omega arith

    go : (Z g n : ℕ) → g ≡ G * Z → n ≡ N * Z → 2 * (P * Z) + 2 * g ≤ 2 * (M * Z) + 2 * n + Z * w → (2 * P + 2 * G) * Z ≤ (2 * M + 2 * 0 + 2 * N + w) * Z
    go Z g n e f h = omega arith

cut_low : (P M N G K w : ℕ) → 0 < K * K → 2 * (M * (K * K)) + 2 * (N * K * K) ≤ 2 * (P * (K * K)) + 2 * (G * K * K) + K * K * w → 2 * M + 2 * 0 + 2 * N ≤ 2 * P + 2 * G + w
cut_low P M N G K w p h = le_of_mul-le-mul_right {k = K * K} (go (K * K) (G * K * K) (N * K * K) (turn G) (turn N) h) p
  where
    turn : (G : ℕ) → G * K * K ≡ G * (K * K)
    turn G = omega arith

    go : (Z g n : ℕ) → g ≡ G * Z → n ≡ N * Z → 2 * (M * Z) + 2 * n ≤ 2 * (P * Z) + 2 * g + Z * w → (2 * M + 2 * 0 + 2 * N) * Z ≤ (2 * P + 2 * G + w) * Z
    go Z g n e f h = omega arith

square_bound : (N K k : ℕ) → 0 < K → N < k → N * K * K < k * (K * K)
square_bound N K k p h = lt_of_le_of_lt (le_of_eq (turn N)) (mul-lt-mul_of_pos_right h (mul-pos p p))
  where
    turn : (N : ℕ) → N * K * K ≡ N * (K * K)
    turn N = omega arith

-- the angle is above zero
less_positive : (x a : Float) (N G v : ℕ) → HasValue x false N (2 ^ 149) → HasValue a false G (2 ^ 149) → 24 ≤ v → v ≤ 200 → N < 2 ^ 24 * 2 ^ (v - 24) → G < 2 ^ 24 * 2 ^ (v - 24) → Less (sub binary32 x a) N G 0 (2 ^ (v - 24))
less_positive x a N G v vx va l u h k =
    let D = subtracted x a false N (2 ^ 149) G (2 ^ 149) v (lit< tt) (lit< tt) vx va l u (square_bound N (2 ^ 149) (2 ^ 24 * 2 ^ (v - 24)) (lit< tt) h) (square_bound G (2 ^ 149) (2 ^ 24 * 2 ^ (v - 24)) (lit< tt) k) in
    record {
      t = D.t;
      G = D.G;
      value = D.value;
      high = cut_high (cond D.t 0 D.G) (cond D.t D.G 0) N G (2 ^ 149) (2 ^ (v - 24)) (lit< tt) D.high;
      low = cut_low (cond D.t 0 D.G) (cond D.t D.G 0) N G (2 ^ 149) (2 ^ (v - 24)) (lit< tt) D.low;
    }

-- the angle is below zero
added_sizes : (x a : Float) (N G : ℕ) → HasValue x false N (2 ^ 149) → HasValue a true G (2 ^ 149) → sub binary32 x a ≡ round binary32 false (N + G) (2 ^ 149)
unfolding sub add neg sum
added_sizes nan a N G v w = absurd v
added_sizes (inf s) a N G v w = absurd v
added_sizes (fin s m e) nan N G v w = absurd w
added_sizes (fin s m e) (inf t) N G v w = absurd w
added_sizes (fin true m e) (fin t n d) N G v w = absurd (subst T v.0 tt)
added_sizes (fin false m e) (fin false n d) N G v w = absurd (subst T (sym w.0) tt)
added_sizes (fin false m e) (fin true n d) N G v w =
    round_same binary32 false (m * up e * down d + n * up d * down e) (down e * down d) (N + G) (2 ^ 149) (mul-pos (down_pos e) (down_pos d)) (lit< tt) (go (m * up e) (n * up d) (down e) (down d) (2 ^ 149) v.1 w.1)
  where
    go : (x y a b K : ℕ) → x * K ≡ N * a → y * K ≡ G * b → (x * b + y * a) * K ≡ (N + G) * (a * b)
    go x y a b K e f = omega (arith, ap (λ (z : ℕ). b * z) e, ap (λ (z : ℕ). a * z) f)

less_negative : (x a : Float) (N G v : ℕ) → HasValue x false N (2 ^ 149) → HasValue a true G (2 ^ 149) → 24 ≤ v → v ≤ 200 → N + G < 2 ^ 24 * 2 ^ (v - 24) → Less (sub binary32 x a) N 0 G (2 ^ (v - 24))
less_negative x a N G v vx va l u h =
    let R = rounded false (N + G) (2 ^ 149) v (lit< tt) l u (mul-lt-mul_of_pos_right h (lit< tt)) in
    record {
      t = false;
      G = R.G;
      value = subst (λ (r : Float). HasValue r false R.G (2 ^ 149)) (sym (added_sizes x a N G vx va)) R.value;
      high = high R.G (2 ^ 149) (2 ^ (v - 24)) (lit< tt) R.high;
      low = low R.G (2 ^ 149) (2 ^ (v - 24)) (lit< tt) R.low;
    }
  where
    high : (R K w : ℕ) → 0 < K → 2 * (R * K) ≤ 2 * ((N + G) * K) + K * w → 2 * R + 2 * 0 ≤ 2 * 0 + 2 * G + 2 * N + w
    high R K w p h = le_of_mul-le-mul_right {k = K} (go h) p
      where
        go : 2 * (R * K) ≤ 2 * ((N + G) * K) + K * w → (2 * R + 2 * 0) * K ≤ (2 * 0 + 2 * G + 2 * N + w) * K
        go h = omega arith

    low : (R K w : ℕ) → 0 < K → 2 * ((N + G) * K) ≤ 2 * (R * K) + K * w → 2 * 0 + 2 * G + 2 * N ≤ 2 * R + 2 * 0 + w
    low R K w p h = le_of_mul-le-mul_right {k = K} (go h) p
      where
        go : 2 * ((N + G) * K) ≤ 2 * (R * K) + K * w → (2 * 0 + 2 * G + 2 * N) * K ≤ (2 * R + 2 * 0 + w) * K
        go h = omega arith

-- either way; B is 2^24 times w
pub less : (x a : Float) (N : ℕ) (s : Bool) (G v B : ℕ) → B ≡ 2 ^ 24 * 2 ^ (v - 24) → HasValue x false N (2 ^ 149) → HasValue a s G (2 ^ 149) → 24 ≤ v → v ≤ 200 → N < B → cond s 0 G < B → N + cond s G 0 < B → Less (sub binary32 x a) N (cond s 0 G) (cond s G 0) (2 ^ (v - 24))
less x a N false G v B b vx va l u h k i = less_positive x a N G v vx va l u (subst (λ (z : ℕ). N < z) b h) (subst (λ (z : ℕ). G < z) b k)
less x a N true G v B b vx va l u h k i = less_negative x a N G v vx va l u (subst (λ (z : ℕ). N + G < z) b i)
