-- How far `round` is from its fraction: at most half a unit in the last place that is kept.
use mathlib.Core.Path.{◌≡◌, subst}
use mathlib.Core.Bool.{not}
use Prim.Native.Nat.{ℕ, ◌+◌, ◌-◌, ◌*◌, ◌/◌, ◌%◌, ◌^◌, ◌≤◌, ◌<◌, compare, Ordering}
use native.Mathlib.Nat.{mul-le-mul_left, mul-le-mul_right, mul-pos, div-add-mod', mod-lt, div-lt_iff_lt-mul}
use native.Mathlib.Omega.{arith}
use lib.Dec.{T, is_le, compare_is_eq, eqb, leb→le, nleb→lt, eqb→eq, eqb_refl}
use lib.Arith.{lt_of_le-ne}
use lib.Pow.{pow_pos, pow_mono}
use lib.Ieee.{Format, prec, low, size, nearest}
use lib.Ieee.Digits.{size-le}
use lib.Ieee.Nearest.{closest}
use lib.Ieee.Order.{drop}
use lib.Ieee.Scale.{grid}

-- the whole number w is a / b to the nearest: twice the difference is at most b
pub record Half (a b w : ℕ) : Type 0 where
  pub high : 2 * (w * b) ≤ 2 * a + b
  pub low : 2 * a ≤ 2 * (w * b) + b

-- what `compare` says
abbrev pub Cmp : Ordering → ℕ → ℕ → Type 0
Cmp Ordering.lt a b = a < b
Cmp Ordering.eq a b = a ≡ b
Cmp Ordering.gt a b = b < a

pub cmp : (a b : ℕ) → Cmp (compare a b) a b
cmp a b = go (compare a b) (leb→le a b) (nleb→lt a b) (eqb→eq a b) (λ (e : a ≡ b). subst (λ (x : ℕ). T (eqb a x)) e (eqb_refl a))
  where
    go : (o : Ordering) → (T (is_le o) → a ≤ b) → (T (not (is_le o)) → b < a) → (T (compare_is_eq o) → a ≡ b) → (a ≡ b → T (compare_is_eq o)) → Cmp o a b
    go Ordering.lt h k e n = lt_of_le-ne (h tt) n
    go Ordering.eq h k e n = e tt
    go Ordering.gt h k e n = k tt

near_half : (q r b a : ℕ) (o : Ordering) → q * b + r ≡ a → r < b → Cmp o (r * 2) b → Half a b (nearest q o)
near_half q r b a Ordering.lt e l c = record { high = omega arith; low = omega arith }
near_half q r b a Ordering.eq e l c = record { high = up; low = dn }
  where
    bit : q % 2 ≤ 1
    bit = omega arith

    up : 2 * ((q + q % 2) * b) ≤ 2 * a + b
    up = omega (arith, mul-le-mul_right b bit)

    dn : 2 * a ≤ 2 * ((q + q % 2) * b) + b
    dn = omega arith
near_half q r b a Ordering.gt e l c = record { high = omega arith; low = omega arith }

pub closest_half : (a b : ℕ) → 0 < b → Half a b (closest a b)
closest_half a b h = near_half (a / b) (a % b) b a (compare (a % b * 2) b) (div-add-mod' a b) (mod-lt a h) (cmp (a % b * 2) b)

-- a / c rounded, in units of the format's smallest value, is off by at most half of 2^(B - prec) units where a / c is below 2^B units
pub rounding : (f : Format) (a c B : ℕ) → 0 < c → a * 2 ^ low f < 2 ^ B * c → (2 * (grid f a c * c) ≤ 2 * (a * 2 ^ low f) + c * 2 ^ (B - prec f)) × (2 * (a * 2 ^ low f) ≤ 2 * (grid f a c * c) + c * 2 ^ (B - prec f))
rounding f a c B C h =
    let n = a * 2 ^ low f in
    let k = drop (prec f) n c in
    let w = closest n (c * 2 ^ k) in
    let H = closest_half n (c * 2 ^ k) (mul-pos C (pow_pos k)) in
    let few : size (n / c) ≤ B = size-le (n / c) B ((div-lt_iff_lt-mul C).1 h) in
    let K : 2 ^ k ≤ 2 ^ (B - prec f) = pow_mono (less (size (n / c)) (prec f) few) in
    go n (2 ^ k) w (2 ^ (B - prec f)) (mul-le-mul_left c K) H.high H.low
  where
    less : (z p : ℕ) → z ≤ B → z - p ≤ B - p
    less z p h = omega arith

    go : (n x w y : ℕ) → c * x ≤ c * y → 2 * (w * (c * x)) ≤ 2 * n + c * x → 2 * n ≤ 2 * (w * (c * x)) + c * x → (2 * (w * x * c) ≤ 2 * n + c * y) × (2 * n ≤ 2 * (w * x * c) + c * y)
    go n x w y h k l = (omega arith, omega arith)
