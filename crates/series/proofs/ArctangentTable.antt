-- The arctangent by its table: for 0 ≤ k < 2^24 the table's result is within 262 · 2^-30 of Euler's sum of 40 terms at k / 2^24.
use mathlib.Core.Path.{◌≡◌, sym, subst, refl, ap, ◌∙◌}
use Prim.Native.Nat.{ℕ, suc, ◌+◌, ◌*◌, ◌^◌, ◌/◌, ◌≤◌, ◌<◌, ◌%◌}
use native.Mathlib.Nat.{mul-le-mul_left, mul-le-mul_right, le_trans, le_of_mul-le-mul_left, le_of_mul-le-mul_right, mul-pos, div-mul-le_self, lt-div-mul-add, div-add-mod', mod-lt, one-le-pow, mul-div-mul_left, div-lt_iff_lt-mul, mul_left_comm}
use native.Mathlib.Omega.{arith}
use Rattle.series.specs.Series.{euler_denominator, euler_term, euler_sum}
use Rattle.series.proofs.EulerGrowth.{ev, od}
use Rattle.series.specs.Interpolation.{Sloped, At, Line}
use lib.Dec.{leb, leb→le, lit≤, lit<}
use lib.ListN.{get_or}
use lib.Ieee.Fits.{and_l, and_r}
use Rattle.series.specs.Tables.{arcs}
use Rattle.series.specs.Nearest.{near_atan}
use Rattle.series.proofs.Nearest.{nearest}
use Rattle.series.proofs.Interpolation.{interpolation}
use Rattle.series.proofs.EulerSums.{den_pos, same_den, same_num, Sum}
use Rattle.series.proofs.EulerSlope.{arc, lean, arc_sloped}

same_floor : (M C n p q : ℕ) → 0 < C → M * euler_sum n (C * p) (C * q) / euler_denominator n (C * p) (C * q) ≡ M * euler_sum n p q / euler_denominator n p q
same_floor M C n p q h =
    rw (same_num C n p q, same_den C n p q, mul_left_comm M ((C * C) ^ n) (euler_sum n p q)) (mul-div-mul_left (M * euler_sum n p q) (euler_denominator n p q) (one-le-pow n (C * C) (mul-pos h h)))

-- a table number that is nearest, against the floor
node : (M N D t P : ℕ) → 0 < D → 2 ^ 31 ≤ M → P ≡ M * N / D → 2 * t * D ≤ 2 ^ 31 * N + D → 2 ^ 31 * N ≤ (2 * t + 1) * D → At (2 ^ 30) M 1 P 0 t 0
node M N D t P pos big e h k =
    let lo : P * D ≤ M * N = subst (λ (x : ℕ). x * D ≤ M * N) (sym e) (div-mul-le_self (M * N) D) in
    let hi : M * N < P * D + D = subst (λ (x : ℕ). M * N < x * D + D) (sym e) (lt-div-mul-add {a = M * N} {b = D} pos) in
    record {
      high = le_of_mul-le-mul_right {k = 2 * D} (high lo (mul-le-mul_left M k)) (mul-pos (lit< tt) pos);
      low = le_of_mul-le-mul_right {k = 2 * D} (low hi (mul-le-mul_left M h) (mul-le-mul_left D big)) (mul-pos (lit< tt) pos);
    }
  where
    high : P * D ≤ M * N → M * (2 ^ 31 * N) ≤ M * ((2 * t + 1) * D) → (2 ^ 30 * P + 0 * M) * (2 * D) ≤ (2 ^ 30 * 0 + (t + 1) * M) * (2 * D)
    high h k = omega arith

    low : M * N < P * D + D → M * (2 * t * D) ≤ M * (2 ^ 31 * N + D) → D * 2 ^ 31 ≤ D * M → (2 ^ 30 * 0 + t * M) * (2 * D) ≤ (2 ^ 30 * P + (0 + 1) * M) * (2 * D)
    low h k b = omega arith

arc_node : (n q M c c' : ℕ) (pos : 0 < q) (terms : q * ev n ≤ 2 ^ n * od n) (cm : M ≤ c * (q * q)) (cm' : M * q ≤ c' * (q * q * (q * q))) (C p r t : ℕ) → C * r ≡ q → 0 < C → 0 < r → 2 ^ 31 ≤ M →
    2 * t * euler_denominator n p r ≤ 2 ^ 31 * euler_sum n p r + euler_denominator n p r → 2 ^ 31 * euler_sum n p r ≤ (2 * t + 1) * euler_denominator n p r → At (2 ^ 30) M 1 (arc n q M c c' pos terms cm cm' (C * p)) 0 t 0
unfolding arc
arc_node n q M c c' pos terms cm cm' C p r t e Cp rp big h k =
    node M (euler_sum n p r) (euler_denominator n p r) t (arc n q M c c' pos terms cm cm' (C * p)) (den_pos n p r rp) big (ap (λ (z : ℕ). M * euler_sum n (C * p) z / euler_denominator n (C * p) z) (sym e) ∙ same_floor M C n p r Cp) h k

-- ---- forty terms on the grid of 2^-24, in units of 2^-80
pub terms : 2 ^ 24 * ev 40 ≤ 2 ^ 40 * od 40
unfolding ev od
terms = lit≤ tt

pub cm : 2 ^ 80 ≤ 2 ^ 32 * (2 ^ 24 * 2 ^ 24)
cm = lit≤ tt

pub cm' : 2 ^ 80 * 2 ^ 24 ≤ 2 ^ 8 * (2 ^ 24 * 2 ^ 24 * (2 ^ 24 * 2 ^ 24))
cm' = lit≤ tt

unfoldable pub sum : ℕ → ℕ
sum x = arc 40 (2 ^ 24) (2 ^ 80) (2 ^ 32) (2 ^ 8) (lit< tt) terms cm cm' x

unfoldable slope : ℕ → ℕ
slope x = lean 40 (2 ^ 24) (2 ^ 80) (2 ^ 32) (2 ^ 8) (lit< tt) terms cm cm' x

sum_is : (x : ℕ) → sum x ≡ 2 ^ 80 * euler_sum 40 x (2 ^ 24) / euler_denominator 40 x (2 ^ 24)
unfolding sum arc
sum_is x = refl

at_node : (i : ℕ) → i < 1025 → At (2 ^ 30) (2 ^ 80) 1 (sum (16384 * i)) 0 (get_or arcs i 0) 0
unfolding sum near_atan
at_node i h =
    let t = nearest.arctangent i h in
    let d = euler_denominator 40 i 1024 in
    let n = 2 ^ 31 * euler_sum 40 i 1024 in
    let k = get_or arcs i 0 in
    let t1 = leb (2 * k * d) (n + d) in
    let t2 = leb (n + 2 ^ 31 * euler_term 39 i 1024) ((2 * k + 1) * d) in
    arc_node 40 (2 ^ 24) (2 ^ 80) (2 ^ 32) (2 ^ 8) (lit< tt) terms cm cm' 16384 i 1024 k refl (lit< tt) (lit< tt) (lit≤ tt) (leb→le (2 * k * d) (n + d) (and_l t1 t2 t)) (drop n (2 ^ 31 * euler_term 39 i 1024) ((2 * k + 1) * d) (leb→le (n + 2 ^ 31 * euler_term 39 i 1024) ((2 * k + 1) * d) (and_r t1 t2 t)))
  where
    drop : (a b c : ℕ) → a + b ≤ c → a ≤ c
    drop a b c h = omega arith

sloped : Sloped sum (λ x. 0) slope (λ x. 0) (3 * 2 ^ 32 + 2 ^ 8 + 2) (2 ^ 32 + 2 ^ 8 + 1) (2 ^ 24)
unfolding sum slope
sloped = arc_sloped 40 (2 ^ 24) (2 ^ 80) (2 ^ 32) (2 ^ 8) (lit< tt) terms cm cm'

slope_small : (x : ℕ) → x < 2 ^ 24 → slope x ≤ 0 + 2 ^ 56
unfolding slope lean
slope_small x h = go (2 ^ 80 * 2 ^ 24 / (x * x + 2 ^ 24 * 2 ^ 24)) (x * x + 2 ^ 24 * 2 ^ 24) (div-mul-le_self (2 ^ 80 * 2 ^ 24) (x * x + 2 ^ 24 * 2 ^ 24)) (omega arith)
  where
    go : (l A : ℕ) → l * A ≤ 2 ^ 104 → 2 ^ 48 ≤ A → l ≤ 0 + 2 ^ 56
    go l A h k = le_of_mul-le-mul_right {k = 2 ^ 48} (le_trans (mul-le-mul_left l k) (le_trans h (lit≤ tt))) (lit< tt)

arc_close : (k : ℕ) → k < 2 ^ 24 → (m : ℕ) → Line 16384 (k % 16384) (get_or arcs (k / 16384) 0) 0 (get_or arcs (suc (k / 16384)) 0) 0 m 0 → At (2 ^ 30) (2 ^ 80) (1 + 129 + 65 + 65) (sum k) 0 (64 * m) 0
arc_close k h m t =
    let i = k / 16384 in
    let f = k % 16384 in
    let split : i * 16384 + f ≡ k = div-add-mod' k 16384 in
    let f< : f < 16384 = mod-lt k (lit< tt) in
    let i< : i < 1024 = (div-lt_iff_lt-mul (lit< tt)).1 h in
    go i f (get_or arcs i 0) (get_or arcs (suc i) 0) split f< i< (at_node i (omega arith)) (at_node (suc i) (omega arith)) t
  where
    go : (i f p₀ p₁ : ℕ) → i * 16384 + f ≡ k → f < 16384 → i < 1024 → At (2 ^ 30) (2 ^ 80) 1 (sum (16384 * i)) 0 p₀ 0 → At (2 ^ 30) (2 ^ 80) 1 (sum (16384 * suc i)) 0 p₁ 0 → Line 16384 f p₀ 0 p₁ 0 m 0 → At (2 ^ 30) (2 ^ 80) (1 + 129 + 65 + 65) (sum k) 0 (64 * m) 0
    go i f p₀ p₁ e f< i< a₀ a₁ t =
        let there : 16384 * suc i ≡ 16384 * i + 16384 = omega arith in
        let here : 16384 * i + f ≡ k = omega arith in
        subst (λ (x : ℕ). At (2 ^ 30) (2 ^ 80) (1 + 129 + 65 + 65) (sum x) 0 (64 * m) 0) here
        (interpolation sum (λ x. 0) slope (λ x. 0) (3 * 2 ^ 32 + 2 ^ 8 + 2) (2 ^ 32 + 2 ^ 8 + 1) (2 ^ 24) (2 ^ 56) (2 ^ 30) (2 ^ 80) 1 129 65 16384 16384 sloped (record { rises = slope_small; sinks = λ x h. omega arith }) (lit< tt) (lit< tt) (lit< tt) (lit≤ tt) (lit≤ tt)
        (16384 * i) f f p₀ 0 p₁ 0 m 0 (omega arith) (omega arith) (omega arith) (omega arith) a₀ (subst (λ (x : ℕ). At (2 ^ 30) (2 ^ 80) 1 (sum x) 0 p₁ 0) there a₁) t)

-- from the floor of `sum` to the fraction
from_floor : (N D S m : ℕ) → 0 < D → S ≡ 2 ^ 80 * N / D → At (2 ^ 30) (2 ^ 80) (1 + 129 + 65 + 65) S 0 (64 * m) 0 → (64 * m * D ≤ 2 ^ 30 * N + 260 * D) × (2 ^ 30 * N ≤ (64 * m + 261) * D)
from_floor N D S m pos e r =
    let lo : S * D ≤ 2 ^ 80 * N = subst (λ (x : ℕ). x * D ≤ 2 ^ 80 * N) (sym e) (div-mul-le_self (2 ^ 80 * N) D) in
    let hi : 2 ^ 80 * N < S * D + D = subst (λ (x : ℕ). 2 ^ 80 * N < x * D + D) (sym e) (lt-div-mul-add {a = 2 ^ 80 * N} {b = D} pos) in
    (le_of_mul-le-mul_left {k = 2 ^ 80} (low lo (mul-le-mul_right D r.low)) (lit< tt), le_of_mul-le-mul_left {k = 2 ^ 80} (high hi (mul-le-mul_right D r.high)) (lit< tt))
  where
    low : S * D ≤ 2 ^ 80 * N → (2 ^ 30 * 0 + 64 * m * 2 ^ 80) * D ≤ (2 ^ 30 * S + (0 + (1 + 129 + 65 + 65)) * 2 ^ 80) * D → 2 ^ 80 * (64 * m * D) ≤ 2 ^ 80 * (2 ^ 30 * N + 260 * D)
    low h k = omega arith

    high : 2 ^ 80 * N < S * D + D → (2 ^ 30 * S + 0 * 2 ^ 80) * D ≤ (2 ^ 30 * 0 + (64 * m + (1 + 129 + 65 + 65)) * 2 ^ 80) * D → 2 ^ 80 * (2 ^ 30 * N) ≤ 2 ^ 80 * ((64 * m + 261) * D)
    high h k = omega arith

-- n is kept a variable: at a numeral the sums would be computed out
floor_sum : (n k q m S : ℕ) → 0 < q → S ≡ 2 ^ 80 * euler_sum n k q / euler_denominator n k q → At (2 ^ 30) (2 ^ 80) (1 + 129 + 65 + 65) S 0 (64 * m) 0 → Sum (2 ^ 30) (64 * m) 262 (64 * m + 262) n k q
floor_sum n k q m S pos e r =
    let f = from_floor (euler_sum n k q) (euler_denominator n k q) S m (den_pos n k q pos) e r in
    record { least = low (64 * m * euler_denominator n k q) (2 ^ 30 * euler_sum n k q) (euler_denominator n k q) f.0; most = high (2 ^ 30 * euler_sum n k q) (euler_denominator n k q) f.1 }
  where
    low : (x N D : ℕ) → x ≤ N + 260 * D → x ≤ N + 262 * D
    low x N D h = omega arith

    high : (N D : ℕ) → N ≤ (64 * m + 261) * D → N ≤ (64 * m + 262) * D
    high N D h = omega arith

pub table_sum : (k : ℕ) → k < 2 ^ 24 → (m : ℕ) → Line 16384 (k % 16384) (get_or arcs (k / 16384) 0) 0 (get_or arcs (suc (k / 16384)) 0) 0 m 0 → Sum (2 ^ 30) (64 * m) 262 (64 * m + 262) 40 k (2 ^ 24)
table_sum k h m l = floor_sum 40 k (2 ^ 24) m (sum k) (lit< tt) (sum_is k) (arc_close k h m l)
