-- For a size x of at most 16, x 2^24 is exact, and its floor is that of the fraction.
use Rattle.std.proofs.Common.{◌≡◌, ℕ, ◌+◌, ◌-◌, ◌*◌, ◌/◌, ◌^◌, ◌<◌, ◌≤◌, min, true, false, T, ℤ, pos, negsuc, sym, refl, ap, ◌∙◌, subst, le_trans, le_of_eq, lt_of_le_of_lt, mul-le-mul_right, mul_comm, mul-one, le_of_mul-le-mul_right, arith, lit<, lit≤, lt→ltb, pow-add}
use native.Mathlib.Nat.{div-le_of_le-mul, min-eq_left}
use lib.Ieee.{Float, nan, inf, fin, binary32, up, down, round, mul, lt, le, to_unsigned, fits, of_bits}
use lib.Ieee.Exact.{HasValue, round_exact}
use lib.Ieee.Fits.{down_pos}
use lib.Ieee.Nearest.{div_same}
use Rattle.laws.proofs.Place.{fit_of, multiple}
use Rattle.scalar.specs.Arith.{f1}
use Rattle.scalar.specs.Scalar.{abs_of}
use Rattle.scalar.proofs.Sizes.{bounded_size, le→values, values→le}
use Rattle.trig.specs.Interpolation.{unit}
use Rattle.trig.specs.Sine.{sixteen, scaled_of}

-- ---- x 2^24
power : (e : ℤ) → (k : ℕ) × (up e ≡ 2 ^ k)
power (pos k) = (k, refl)
power (negsuc k) = (0, refl)

-- a fraction with a few digits still has them, times 2^24
exact : (m : ℕ) (e : ℤ) → T (fits binary32 (fin false m e)) → m * up e ≤ 16 * down e → HasValue (round binary32 false (m * up e * 2 ^ 24) (down e)) false (m * up e * 2 ^ 24) (down e)
exact m e f h =
    let F = fit_of binary32 false m e f in
    let j = multiple e 149 F.1 in
    let k = power e in
    let w : 2 ^ (k.0 + (j.0 + 24)) ≡ up e * (2 ^ j.0 * 2 ^ 24) = pow-add 2 k.0 (j.0 + 24) ∙ ap (λ (z : ℕ). 2 ^ k.0 * z) (pow-add 2 j.0 24) ∙ ap (λ (z : ℕ). z * (2 ^ j.0 * 2 ^ 24)) (sym k.1) in
    let same : m * up e * 2 ^ 24 * 2 ^ 149 ≡ m * 2 ^ (k.0 + (j.0 + 24)) * down e = digits (up e) (down e) (2 ^ j.0) (2 ^ 24) (2 ^ 149) (2 ^ (k.0 + (j.0 + 24))) j.1 w in
    round_exact binary32 false (m * up e * 2 ^ 24) (down e) m (k.0 + (j.0 + 24)) (down_pos e) F.0
    (lt_of_le_of_lt (le_of_mul-le-mul_right {k = down e} (le_trans (le_of_eq (sym same)) (small (m * up e) (down e) (2 ^ 24) (2 ^ 149) h)) (down_pos e)) (lit< tt)) same
  where
    digits : (u d x y z w : ℕ) → z ≡ x * d → w ≡ u * (x * y) → m * u * y * z ≡ m * w * d
    digits u d x y z w e f = rw (e, f) (omega arith)

    small : (a d y z : ℕ) → a ≤ 16 * d → a * y * z ≤ 16 * (y * z) * d
    small a d y z h = le_trans (le_of_eq (turn a)) (le_trans (mul-le-mul_right (y * z) h) (le_of_eq (turn' d)))
      where
        turn : (a : ℕ) → a * y * z ≡ a * (y * z)
        turn a = omega arith

        turn' : (d : ℕ) → 16 * d * (y * z) ≡ 16 * (y * z) * d
        turn' d = omega arith

scaled_value : (m : ℕ) (e : ℤ) → T (fits binary32 (fin false m e)) → m * up e ≤ 16 * down e → HasValue (mul binary32 (fin false m e) unit) false (m * up e * 2 ^ 24) (down e)
unfolding mul of_bits
scaled_value m e f h = subst (λ (d : ℕ). HasValue (round binary32 false (m * up e * 2 ^ 24) d) false (m * up e * 2 ^ 24) (down e)) (sym (mul-one (down e))) (exact m e f h)

-- ---- the floor of a number of at most 2^28
floor_is : (z : Float) (a d : ℕ) → 0 < d → a ≤ 2 ^ 28 * d → HasValue z false a d → (to_unsigned 64 z ≡ a / d) × (a / d ≤ 2 ^ 28)
unfolding to_unsigned
floor_is nan a d p h v = absurd v
floor_is (inf s) a d p h v = absurd v
floor_is (fin true n e) a d p h v = absurd (subst T v.0 tt)
floor_is (fin false n e) a d p h v =
    let s : n * up e / down e ≡ a / d = div_same (n * up e) (down e) a d (down_pos e) p v.1 in
    let l : a / d ≤ 2 ^ 28 = div-le_of_le-mul d (le_trans h (le_of_eq (mul_comm (2 ^ 28) d))) in
    (ap (λ (x : ℕ). min x (2 ^ 64 - 1)) s ∙ min-eq_left (le_trans l (lit≤ tt)), l)

in_range : (z : Float) (a d : ℕ) → 0 < d → a ≤ 2 ^ 28 * d → HasValue z false a d → T (lt (fin true 1 (pos 0)) z) × T (lt z (fin false 1 (pos 64)))
unfolding lt
in_range nan a d p h v = absurd v
in_range (inf s) a d p h v = absurd v
in_range (fin true n e) a d p h v = absurd (subst T v.0 tt)
in_range (fin false n e) a d p h v =
    (lt→ltb 0 (1 * 1 * down e + n * up e * 1) (plus (down e) (n * up e) (down_pos e)), lt→ltb (n * up e * 1) (1 * 2 ^ 64 * down e) (wide (n * up e) (down e) (down_pos e) (le_of_mul-le-mul_right {k = d} (le_trans (le_of_eq v.1) (le_trans (mul-le-mul_right (down e) h) (le_of_eq (turn (down e))))) p)))
  where
    plus : (x y : ℕ) → 0 < x → 0 < 1 * 1 * x + y * 1
    plus x y h = omega arith

    turn : (x : ℕ) → 2 ^ 28 * d * x ≡ 2 ^ 28 * x * d
    turn x = omega arith

    wide : (x y : ℕ) → 0 < y → x ≤ 2 ^ 28 * y → x * 1 < 1 * 2 ^ 64 * y
    wide x y p h = omega arith

-- ---- what `scaled` asks and gives
pub record Scales (x : Float) : Type 0 where
  pub range : T (lt (fin true 1 (pos 0)) (mul binary32 x unit)) × T (lt (mul binary32 x unit) (fin false 1 (pos 64)))
  pub few : scaled_of x ≤ 2 ^ 28

pub at_most_16 : (m : ℕ) (e : ℤ) → T (le (fin false m e) sixteen) → m * up e ≤ 16 * down e
unfolding of_bits
at_most_16 m e h = go (m * up e) (down e) (le→values m e 1 (pos 4) h)
  where
    go : (a d : ℕ) → a * 1 ≤ 1 * 2 ^ 4 * d → a ≤ 16 * d
    go a d h = omega arith

times : (a d : ℕ) → a ≤ 16 * d → a * 2 ^ 24 ≤ 2 ^ 28 * d
times a d h = omega arith

-- k = floor(x 2^24), as a fraction of whole numbers
pub scaled_is : (m : ℕ) (e : ℤ) → T (fits binary32 (fin false m e)) → T (le (fin false m e) sixteen) → scaled_of (fin false m e) ≡ m * up e * 2 ^ 24 / down e
unfolding scaled_of
scaled_is m e f h = let l = at_most_16 m e h in (floor_is (mul binary32 (fin false m e) unit) (m * up e * 2 ^ 24) (down e) (down_pos e) (times (m * up e) (down e) l) (scaled_value m e f l)).0

pub scales : (x : Float) → T (fits binary32 x) → x ≡ abs_of x → T (le x sixteen) → Scales x
unfolding scaled_of of_bits
scales x f s h =
    let y = bounded_size x 1 (pos 4) s h in
    subst Scales (sym y.is) (go y.m y.e (subst (λ (z : Float). T (fits binary32 z)) y.is f) (subst (λ (z : Float). T (le z sixteen)) y.is h))
  where
    go : (m : ℕ) (e : ℤ) → T (fits binary32 (fin false m e)) → T (le (fin false m e) sixteen) → Scales (fin false m e)
    go m e f h =
        let l = at_most_16 m e h in
        let z = mul binary32 (fin false m e) unit in
        let b = times (m * up e) (down e) l in
        let v = scaled_value m e f l in
        let r = floor_is z (m * up e * 2 ^ 24) (down e) (down_pos e) b v in
        record { range = in_range z (m * up e * 2 ^ 24) (down e) (down_pos e) b v; few = subst (λ (k : ℕ). k ≤ 2 ^ 28) (sym r.0) r.1 }

-- from at most 1 to at most 16
pub one_sixteen : (x : Float) → x ≡ abs_of x → T (le x f1) → T (le x sixteen)
unfolding of_bits
one_sixteen x s h =
    let y = bounded_size x 1 (pos 0) s h in
    subst (λ (z : Float). T (le z sixteen)) (sym y.is) (values→le y.m y.e 1 (pos 4) (wider (y.m * up y.e) (down y.e) (le→values y.m y.e 1 (pos 0) (subst (λ (z : Float). T (le z f1)) y.is h))))
  where
    wider : (a d : ℕ) → a * 1 ≤ 1 * 1 * d → a * 1 ≤ 1 * 2 ^ 4 * d
    wider a d h = omega arith
