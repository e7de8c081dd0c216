-- Products, quotients and differences of f32s whose values are known: the exact result that is rounded, and how far the rounded one can be off.
use mathlib.Core.Path.{◌≡◌, refl, sym, ap, ◌∙◌, subst}
use mathlib.Core.Bool.{Bool, true, false, not, cond, ◌&&◌, beq}
use Prim.Native.Nat.{ℕ, ◌+◌, ◌-◌, ◌*◌, ◌^◌, ◌≤◌, ◌<◌}
use native.Mathlib.Nat.{mul-pos, lt_of_le_of_lt, lt_of_lt_of_le, le_trans, le_of_lt, le_of_eq, mul-le-mul_left, mul-le-mul_right, le_of_mul-le-mul_right, lt_of_mul-lt-mul_right, mul-lt-mul_of_pos_right, mul_comm}
use native.Mathlib.Omega.{arith}
use lib.Dec.{ltb, lit<}
use lib.IntN.{ℤ}
use lib.Pow.{pow-add, pow_mono}
use lib.Ieee.{Float, nan, inf, fin, binary32, up, down, round, mul, div, sub, add, sum, neg, unlike}
use lib.Ieee.Exact.{HasValue}
use lib.Ieee.Fits.{down_pos, up_pos}
use lib.Ieee.Scale.{grid, round_same, round_val}
use borrow.Author.Tests.{ne_eqb, ltb-true, ltb-false}
use Rattle.laws.proofs.Rounding.{round_signed}
use Rattle.laws.proofs.RoundingError.{rounding}

pub neg_value : (x : Float) (s : Bool) (a c : ℕ) → HasValue x s a c → HasValue (neg x) (not s) a c
unfolding neg
neg_value nan s a c v = v
neg_value (inf t) s a c v = v
neg_value (fin t m e) s a c v = (ap not v.0, v.1)

-- ---- the exact result that is rounded
pub mul_value : (x y : Float) (s t : Bool) (A C B D : ℕ) → 0 < C → 0 < D → HasValue x s A C → HasValue y t B D → mul binary32 x y ≡ round binary32 (unlike s t) (A * B) (C * D)
unfolding mul
mul_value nan y s t A C B D p q v w = absurd v
mul_value (inf a) y s t A C B D p q v w = absurd v
mul_value (fin a m e) nan s t A C B D p q v w = absurd w
mul_value (fin a m e) (inf b) s t A C B D p q v w = absurd w
mul_value (fin a m e) (fin b n d) s t A C B D p q v w =
    ap (λ (z : Bool). round binary32 (unlike z b) (m * up e * (n * up d)) (down e * down d)) v.0
    ∙ ap (λ (z : Bool). round binary32 (unlike s z) (m * up e * (n * up d)) (down e * down d)) w.0
    ∙ round_same binary32 (unlike s t) (m * up e * (n * up d)) (down e * down d) (A * B) (C * D) (mul-pos (down_pos e) (down_pos d)) (mul-pos p q) (go (m * up e) (n * up d) (down e) (down d) v.1 w.1)
  where
    go : (x y a b : ℕ) → x * C ≡ A * a → y * D ≡ B * b → x * y * (C * D) ≡ A * B * (a * b)
    go x y a b e f = swap x y C D ∙ ap (λ (z : ℕ). z * (y * D)) e ∙ ap (λ (z : ℕ). A * a * z) f ∙ swap A a B b
      where
        swap : (x y c d : ℕ) → x * y * (c * d) ≡ x * c * (y * d)
        swap x y c d = omega arith

-- divided by a whole number
pub div_value : (x : Float) (s : Bool) (A C n : ℕ) (d : ℤ) → 0 < C → 0 < n → HasValue x s A C → div binary32 x (fin false n d) ≡ round binary32 (unlike s false) (A * down d) (n * up d * C)
unfolding div
div_value nan s A C n d p q v = absurd v
div_value (inf a) s A C n d p q v = absurd v
div_value (fin a m e) s A C n d p q v =
    rw (ne_eqb n 0 (λ h. omega arith), v.0)
    (round_same binary32 (unlike s false) (m * up e * down d) (n * up d * down e) (A * down d) (n * up d * C) (mul-pos (mul-pos q (up_pos d)) (down_pos e)) (mul-pos (mul-pos q (up_pos d)) p) (go (m * up e) (down e) (down d) (n * up d) v.1))
  where
    go : (x a b c : ℕ) → x * C ≡ A * a → x * b * (c * C) ≡ A * b * (c * a)
    go x a b c e = omega (arith, ap (λ (z : ℕ). b * c * z) e)

-- ---- what rounding leaves, in units of 2^-149: off by at most half of w, where the value is below 2^24 w
pub record Rounded (r : Float) (s : Bool) (a c w : ℕ) : Type 0 where
  pub G : ℕ
  pub value : HasValue r s G (2 ^ 149)
  pub high : 2 * (G * c) ≤ 2 * (a * 2 ^ 149) + c * w
  pub low : 2 * (a * 2 ^ 149) ≤ 2 * (G * c) + c * w

grid_fits : (G a c K w : ℕ) → 0 < c → 2 * (G * c) ≤ 2 * (a * K) + c * w → a * K < 2 ^ 24 * w * c → 2 ^ 24 * w + w < 2 ^ 277 → G < 2 ^ 277
grid_fits G a c K w p h l b = lt_of_le_of_lt (le_of_mul-le-mul_right {k = c} (go (2 ^ 24) h l) p) b
  where
    go : (k : ℕ) → 2 * (G * c) ≤ 2 * (a * K) + c * w → a * K < k * w * c → G * c ≤ (k * w + w) * c
    go k h l = omega arith

pub rounded : (s : Bool) (a c B : ℕ) → 0 < c → 24 ≤ B → B ≤ 200 → a * 2 ^ 149 < 2 ^ 24 * 2 ^ (B - 24) * c → Rounded (round binary32 s a c) s a c (2 ^ (B - 24))
rounded s a c B p b b' h =
    let R = rounding binary32 a c B p (subst (λ (z : ℕ). a * 2 ^ 149 < z * c) (sym (pow-add 2 24 (B - 24)) ∙ ap (λ (i : ℕ). 2 ^ i) back) h) in
    let v = round_val binary32 a c (grid_fits (grid binary32 a c) a c (2 ^ 149) (2 ^ (B - 24)) p R.0 h (lt_of_le_of_lt (sums (2 ^ 24) (2 ^ (B - 24)) (2 ^ 176) (pow_mono {i = B - 24} {j = 176} (omega arith))) (lit< tt))) in
    record { G = grid binary32 a c; value = signed s v; high = R.0; low = R.1 }
  where
    back : 24 + (B - 24) ≡ B
    back = omega arith

    sums : (k w z : ℕ) → w ≤ z → k * w + w ≤ k * z + z
    sums k w z h = omega (arith, mul-le-mul_left k h)

    signed : (s : Bool) → HasValue (round binary32 false a c) false (grid binary32 a c) (2 ^ 149) → HasValue (round binary32 s a c) s (grid binary32 a c) (2 ^ 149)
    signed false v = v
    signed true v = subst (λ (x : Float). HasValue x true (grid binary32 a c) (2 ^ 149)) (sym (round_signed binary32 false a c).2) (neg_value (round binary32 false a c) false (grid binary32 a c) (2 ^ 149) v)

-- ---- the difference of two numbers of one sign s, turned by that sign: above zero or below
pub record Difference (r : Float) (A B c w : ℕ) : Type 0 where
  pub t : Bool
  pub G : ℕ
  pub value : HasValue r t G (2 ^ 149)
  pub high : 2 * (cond t 0 G * c) + 2 * (B * 2 ^ 149) ≤ 2 * (cond t G 0 * c) + 2 * (A * 2 ^ 149) + c * w
  pub low : 2 * (cond t G 0 * c) + 2 * (A * 2 ^ 149) ≤ 2 * (cond t 0 G * c) + 2 * (B * 2 ^ 149) + c * w

abbrev turned : Bool → Float → Float
turned s r = cond s (neg r) r

-- Z is the larger less the smaller
more : (A B Z K G c w : ℕ) → Z + B ≡ A → 2 * (G * c) ≤ 2 * (Z * K) + c * w → 2 * (Z * K) ≤ 2 * (G * c) + c * w →
    (2 * (G * c) + 2 * (B * K) ≤ 2 * (0 * c) + 2 * (A * K) + c * w) × (2 * (0 * c) + 2 * (A * K) ≤ 2 * (G * c) + 2 * (B * K) + c * w)
more A B Z K G c w e h l = (omega (arith, ap (λ (z : ℕ). z * K) e), omega (arith, ap (λ (z : ℕ). z * K) e))

small : (x y z k c : ℕ) → x ≤ y → y * z < k * c → x * z < k * c
small x y z k c h l = lt_of_le_of_lt (mul-le-mul_right z h) l

-- above zero, and below
pub positive : (r : Float) (A B c w : ℕ) → B ≤ A → Rounded r false (A - B) c w → Difference r A B c w
positive r A B c w h R = let m = more A B (A - B) (2 ^ 149) R.G c w (omega arith) R.high R.low in record { t = false; G = R.G; value = R.value; high = m.0; low = m.1 }

pub negative : (r : Float) (A B c w : ℕ) → A ≤ B → Rounded r true (B - A) c w → Difference r A B c w
negative r A B c w h R = let m = more B A (B - A) (2 ^ 149) R.G c w (omega arith) R.high R.low in record { t = true; G = R.G; value = R.value; high = m.1; low = m.0 }

turn : (r : Float) (s : Bool) (a c w : ℕ) → Rounded r s a c w → Rounded (neg r) (not s) a c w
turn r s a c w R = record { G = R.G; value = neg_value r s R.G (2 ^ 149) R.value; high = R.high; low = R.low }

-- s (A / c - B / c), rounded, and turned by s
pub difference : (s : Bool) (A B c v : ℕ) → 0 < c → 24 ≤ v → v ≤ 200 → A * 2 ^ 149 < 2 ^ 24 * 2 ^ (v - 24) * c → B * 2 ^ 149 < 2 ^ 24 * 2 ^ (v - 24) * c → Difference (turned s (sum binary32 s A (not s) B c)) A B c (2 ^ (v - 24))
unfolding sum
difference s A B c v p b b' h k = by_sign s
  where
    up_to : (x y : ℕ) → x - y ≤ x
    up_to x y = omega arith

    near : (s : Bool) (x y : ℕ) → x * 2 ^ 149 < 2 ^ 24 * 2 ^ (v - 24) * c → Rounded (round binary32 s (x - y) c) s (x - y) c (2 ^ (v - 24))
    near s x y l = rounded s (x - y) c v p b b' (small (x - y) x (2 ^ 149) (2 ^ 24 * 2 ^ (v - 24)) c (up_to x y) l)

    plus : (l : Bool) → ltb A B ≡ l → Difference (cond l (round binary32 true (B - A) c) (round binary32 false (A - B) c)) A B c (2 ^ (v - 24))
    plus true e = negative (round binary32 true (B - A) c) A B c (2 ^ (v - 24)) (le_of_lt (ltb-true A B e)) (near true B A k)
    plus false e = positive (round binary32 false (A - B) c) A B c (2 ^ (v - 24)) (ltb-false A B e) (near false A B h)

    tie : (l : Bool) → ltb A B ≡ false → ltb B A ≡ l → Difference (neg (round binary32 l (A - B) c)) A B c (2 ^ (v - 24))
    tie true e f = positive (neg (round binary32 true (A - B) c)) A B c (2 ^ (v - 24)) (ltb-false A B e) (turn (round binary32 true (A - B) c) true (A - B) c (2 ^ (v - 24)) (near true A B h))
    tie false e f =
        let same : A - B ≡ B - A = omega (arith, ltb-false A B e, ltb-false B A f) in
        negative (neg (round binary32 false (A - B) c)) A B c (2 ^ (v - 24)) (ltb-false B A f) (turn (round binary32 false (A - B) c) false (B - A) c (2 ^ (v - 24)) (subst (λ (z : ℕ). Rounded (round binary32 false (A - B) c) false z c (2 ^ (v - 24))) same (near false A B h)))

    minus : (l : Bool) → ltb A B ≡ l → Difference (neg (cond l (round binary32 false (B - A) c) (round binary32 (ltb B A) (A - B) c))) A B c (2 ^ (v - 24))
    minus true e = negative (neg (round binary32 false (B - A) c)) A B c (2 ^ (v - 24)) (le_of_lt (ltb-true A B e)) (turn (round binary32 false (B - A) c) false (B - A) c (2 ^ (v - 24)) (near false B A k))
    minus false e = tie (ltb B A) e refl

    by_sign : (s : Bool) → Difference (turned s (cond (beq s (not s)) (round binary32 s (A + B) c) (cond (ltb A B) (round binary32 (not s) (B - A) c) (round binary32 (s && ltb B A) (A - B) c)))) A B c (2 ^ (v - 24))
    by_sign false = plus (ltb A B) refl
    by_sign true = minus (ltb A B) refl

-- ---- x - y, of one sign, with x = A / C and y = B / D
scale_left : (B C D b e d P K : ℕ) → b * D ≡ B * d → (2 * (P * (C * D)) + 2 * (B * C * K)) * (e * d) ≡ (2 * (P * (e * d)) + 2 * (b * e * K)) * (C * D)
scale_left B C D b e d P K g = omega (arith, ap (λ (z : ℕ). C * K * e * z) g)

scale_right : (A C D a e d M K w : ℕ) → a * C ≡ A * e → (2 * (M * (e * d)) + 2 * (a * d * K) + e * d * w) * (C * D) ≡ (2 * (M * (C * D)) + 2 * (A * D * K) + C * D * w) * (e * d)
scale_right A C D a e d M K w f = omega (arith, ap (λ (z : ℕ). D * K * d * z) f)

rescaled : (A B C D a b e d P M K w : ℕ) → 0 < e * d → a * C ≡ A * e → b * D ≡ B * d → 2 * (P * (e * d)) + 2 * (b * e * K) ≤ 2 * (M * (e * d)) + 2 * (a * d * K) + e * d * w →
    2 * (P * (C * D)) + 2 * (B * C * K) ≤ 2 * (M * (C * D)) + 2 * (A * D * K) + C * D * w
rescaled A B C D a b e d P M K w p f g h = le_of_mul-le-mul_right {k = e * d} (le_trans (le_of_eq (scale_left B C D b e d P K g)) (le_trans (mul-le-mul_right (C * D) h) (le_of_eq (scale_right A C D a e d M K w f)))) p

-- the size of x against the bound, at its own fraction
own_bound : (A C D a e d K k : ℕ) → 0 < C * D → 0 < e * d → a * C ≡ A * e → A * D * K < k * (C * D) → a * d * K < k * (e * d)
own_bound A C D a e d K k p q f h = lt_of_mul-lt-mul_right (C * D) (lt_of_le_of_lt (le_of_eq (go f)) (lt_of_lt_of_le (mul-lt-mul_of_pos_right h q) (le_of_eq (turn k))))
  where
    go : a * C ≡ A * e → a * d * K * (C * D) ≡ A * D * K * (e * d)
    go f = omega (arith, ap (λ (z : ℕ). d * K * D * z) f)

    turn : (k : ℕ) → k * (C * D) * (e * d) ≡ k * (e * d) * (C * D)
    turn k = omega arith

pub subtracted : (x y : Float) (s : Bool) (A C B D v : ℕ) → 0 < C → 0 < D → HasValue x s A C → HasValue y s B D → 24 ≤ v → v ≤ 200 →
    A * D * 2 ^ 149 < 2 ^ 24 * 2 ^ (v - 24) * (C * D) → B * C * 2 ^ 149 < 2 ^ 24 * 2 ^ (v - 24) * (C * D) → Difference (turned s (sub binary32 x y)) (A * D) (B * C) (C * D) (2 ^ (v - 24))
unfolding sub add neg
subtracted nan y s A C B D v p q vx vy l u h k = absurd vx
subtracted (inf a) y s A C B D v p q vx vy l u h k = absurd vx
subtracted (fin a m e) nan s A C B D v p q vx vy l u h k = absurd vy
subtracted (fin a m e) (inf b) s A C B D v p q vx vy l u h k = absurd vy
subtracted (fin a m e) (fin b n d) s A C B D v p q vx vy l u h k =
    let x = m * up e in
    let y = n * up d in
    let c = down e * down d in
    let cp = mul-pos (down_pos e) (down_pos d) in
    let K = 2 ^ 149 in
    let w = 2 ^ (v - 24) in
    let R : Difference (turned s (sum binary32 a (x * down d) (not b) (y * down e) c)) (x * down d) (y * down e) c w = subst (λ (z : Bool). Difference (turned s (sum binary32 z (x * down d) (not b) (y * down e) c)) (x * down d) (y * down e) c w) (sym vx.0)
    (subst (λ (z : Bool). Difference (turned s (sum binary32 s (x * down d) (not z) (y * down e) c)) (x * down d) (y * down e) c w) (sym vy.0)
    (difference s (x * down d) (y * down e) c v cp l u (own_bound A C D x (down e) (down d) K (2 ^ 24 * w) (mul-pos p q) cp vx.1 h) (swap (2 ^ 24 * w) (down d) (down e) (own_bound B D C y (down d) (down e) K (2 ^ 24 * w) (mul-pos q p) (mul-pos (down_pos d) (down_pos e)) vy.1 (swap (2 ^ 24 * w) C D k))))) in
    record {
      t = R.t;
      G = R.G;
      value = R.value;
      high = rescaled A B C D x y (down e) (down d) (cond R.t 0 R.G) (cond R.t R.G 0) K w cp vx.1 vy.1 R.high;
      low = flip A B C D x y (down e) (down d) (cond R.t 0 R.G) (cond R.t R.G 0) K w cp vx.1 vy.1 R.low;
    }
  where
    swap : {z : ℕ} (k a b : ℕ) → z < k * (a * b) → z < k * (b * a)
    swap {z} k a b h = subst (λ (x : ℕ). z < k * x) (mul_comm a b) h

    flip : (A B C D a b e d P M K w : ℕ) → 0 < e * d → a * C ≡ A * e → b * D ≡ B * d → 2 * (M * (e * d)) + 2 * (a * d * K) ≤ 2 * (P * (e * d)) + 2 * (b * e * K) + e * d * w →
        2 * (M * (C * D)) + 2 * (A * D * K) ≤ 2 * (P * (C * D)) + 2 * (B * C * K) + C * D * w
    flip A B C D a b e d P M K w p f g h =
        subst (λ (z : ℕ). 2 * (M * z) + 2 * (A * D * K) ≤ 2 * (P * z) + 2 * (B * C * K) + z * w) (mul_comm D C)
        (rescaled B A D C b a d e M P K w (subst (λ (z : ℕ). 0 < z) (mul_comm e d) p) g f (subst (λ (z : ℕ). 2 * (M * z) + 2 * (a * d * K) ≤ 2 * (P * z) + 2 * (b * e * K) + z * w) (mul_comm e d) h))
