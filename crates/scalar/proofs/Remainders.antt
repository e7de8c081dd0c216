-- `%` of two finite f32s: it is exact, with the dividend's sign, and in units of 2^-149 it is the remainder of whole numbers.
use mathlib.Core.Path.{◌≡◌, refl, sym, ap, ◌∙◌, subst}
use mathlib.Core.Bool.{Bool, true, false, not, cond}
use Prim.Native.Nat.{ℕ, zero, suc, ◌+◌, ◌-◌, ◌*◌, ◌/◌, ◌%◌, ◌^◌, ◌≤◌, ◌<◌}
use native.Mathlib.Nat.{div-add-mod, add-mul, mul_assoc, mul_comm, mul_left_comm, mul_right_comm, mul-add-mod_self_left, mod-eq_of_lt, mod-lt, mul-lt-mul_of_pos_right, mul-pos, zero-mul, eq_of_mul-eq-mul_right, le_trans, lt_of_lt_of_le, mul-le-mul, le_of_eq}
use Rattle.std.proofs.lemmas.Nat.{mul-mod_second}
use native.Mathlib.Decide.{dec_lt}
use native.Mathlib.Omega.{arith}
use lib.Dec.{T, eqb, eqb→eq, leb}
use lib.Pow.{pow_pos, pow-add, pow_mono, shl_lt}
use lib.Ieee.{Float, nan, inf, fin, binary32, up, down, round, rem, neg, of_bits, to_bits, of_fields, fits, is_nan}
use lib.Ieee.Bits.{of_bits-to_bits, of_bits-fits, cond_no}
use lib.Ieee.Fits.{down_pos, neg-fits, rem-fits}
use lib.Ieee.Exact.{HasValue, round_exact}
use borrow.Author.Tests.{eq-eqb, ne_eqb, leb-false}
use Rattle.root.specs.Parts.{sig_of, exp_of}
use Rattle.root.proofs.Patterns.{value, same_value}
use Rattle.scalar.specs.Scalar.{sign_bit, abs_of, is_finite}
use Rattle.scalar.proofs.Signs.{sign_bit_lem}
use Rattle.scalar.proofs.Sizes.{neg-neg, abs_finite}

-- ---- whole numbers

pub mod_scaled : (x y z : ℕ) → 0 < y → 0 < z → x * z % (y * z) ≡ x % y * z
mod_scaled x y z py pz =
    let whole : x * z ≡ y * z * (x / y) + x % y * z =
    ap (λ (k : ℕ). k * z) (sym (div-add-mod x y)) ∙ add-mul (y * (x / y)) (x % y) z ∙ ap (λ (k : ℕ). k + x % y * z) (mul_right_comm y (x / y) z)
    in ap (λ (k : ℕ). k % (y * z)) whole ∙ mul-add-mod_self_left (y * z) (x / y) (x % y * z) ∙ mod-eq_of_lt (mul-lt-mul_of_pos_right (mod-lt x py) pz)

-- one turn of the loop
pub more : (m i d r : ℕ) → r ≡ m * 2 ^ i % d → 2 * r % d ≡ m * 2 ^ (i + 1) % d
more m i d r e = rw (e, mul-mod_second 2 (m * 2 ^ i) d, pow-add 2 i 1, mul_left_comm 2 m (2 ^ i), mul_comm 2 (2 ^ i))

-- ---- in units

module _ (q j : ℕ) (small : q < 2 ^ 24) (fine : q * 2 ^ j < 2 ^ 277) where
  in_units : (z : Float) (s : Bool) (num den : ℕ) → 0 < den → num * 2 ^ 149 ≡ q * 2 ^ j * den → HasValue z s num den → HasValue z s (q * 2 ^ j) (2 ^ 149)
  in_units nan s num den p e v = v
  in_units (inf t) s num den p e v = v
  in_units (fin t m d) s num den p e v = (
    v.0,
    eq_of_mul-eq-mul_right den p (m * up d * 2 ^ 149) (q * 2 ^ j * down d)
        (mul_right_comm (m * up d) (2 ^ 149) den
        ∙ ap (λ (x : ℕ). x * 2 ^ 149) v.1
        ∙ mul_right_comm num (down d) (2 ^ 149)
        ∙ ap (λ (x : ℕ). x * down d) e
        ∙ mul_right_comm (q * 2 ^ j) den (down d)),
  )

  pub remainder_value : (x y : Float) (s t : Bool) (a b : ℕ) → HasValue x s a (2 ^ 149) → HasValue y t b (2 ^ 149) → 0 < b → q * 2 ^ j ≡ a % b → HasValue (rem binary32 x y) s (q * 2 ^ j) (2 ^ 149)
  unfolding rem
  remainder_value nan y s t a b h k p r = absurd h
  remainder_value (inf u) y s t a b h k p r = absurd h
  remainder_value (fin u m e) nan s t a b h k p r = absurd k
  remainder_value (fin u m e) (inf v) s t a b h k p r = absurd k
  remainder_value (fin u m e) (fin v n d) s t a b h k p r =
      let A = m * up e * down d in
      let B = n * up d * down e in
      let den = down e * down d in
      let positive : 0 < den = mul-pos (down_pos e) (down_pos d) in
      let ea : A * 2 ^ 149 ≡ a * den = mul_right_comm (m * up e) (down d) (2 ^ 149) ∙ ap (λ (z : ℕ). z * down d) h.1 ∙ mul_assoc a (down e) (down d) in
      let eb : B * 2 ^ 149 ≡ b * den =
      mul_right_comm (n * up d) (down e) (2 ^ 149) ∙ ap (λ (z : ℕ). z * down e) k.1 ∙ mul_assoc b (down d) (down e) ∙ ap (λ (z : ℕ). b * z) (mul_comm (down d) (down e)) in
      let some : 0 < B * 2 ^ 149 = subst (λ (z : ℕ). 0 < z) (sym eb) (mul-pos p positive) in
      let not_none : n ≡ 0 → ⊥ = λ z. none some (ap (λ (w : ℕ). w * up d * down e * 2 ^ 149) z ∙ nothing (up d) (down e)) in
      let B_positive : 0 < B = factor B (2 ^ 149) some in
      let exact : A % B * 2 ^ 149 ≡ q * 2 ^ j * den =
      sym (mod_scaled A B (2 ^ 149) B_positive (pow_pos 149))
      ∙ ap (λ (z : ℕ). z % (B * 2 ^ 149)) ea
      ∙ ap (λ (z : ℕ). a * den % z) eb
      ∙ mod_scaled a b den p positive
      ∙ ap (λ (z : ℕ). z * den) (sym r) in
      subst (λ (z : Float). HasValue z s (q * 2 ^ j) (2 ^ 149)) (sym (cond_no (eqb n 0) nan (round binary32 u (A % B) den) (off n not_none)))
      (subst (λ (z : Bool). HasValue (round binary32 u (A % B) den) z (q * 2 ^ j) (2 ^ 149)) h.0
      (in_units (round binary32 u (A % B) den) u (A % B) den positive exact (round_exact binary32 u (A % B) den q j positive small fine exact)))
    where
      none : {k : ℕ} → 0 < k → k ≡ 0 → ⊥
      none p e = omega arith

      nothing : (x y : ℕ) → 0 * x * y * 2 ^ 149 ≡ 0
      nothing x y = simp zero-mul refl

      factor : (x y : ℕ) → 0 < x * y → 0 < x
      factor zero y p = absurd (none p (zero-mul y))
      factor (suc x) y p = omega arith

      off : (n : ℕ) → (n ≡ 0 → ⊥) → T (not (eqb n 0))
      off n h = subst (λ (b : Bool). T (not b)) (sym (ne_eqb n 0 h)) tt

-- ---- patterns

-- a significand doubled, and an exponent one less
pub halved : (s k n : ℕ) → 1 < k → s * 2 ^ (k - 1) ≡ n → 2 * s * 2 ^ (k - 1 - 1) ≡ n
halved s k n h e =
    let power : 2 ^ (k - 1) ≡ 2 ^ (k - 1 - 1) * 2 = ap (λ (z : ℕ). 2 ^ z) (next k h) ∙ pow-add 2 (k - 1 - 1) 1 in
    ap (λ (z : ℕ). z * 2 ^ (k - 1 - 1)) (mul_comm 2 s) ∙ mul_assoc s 2 (2 ^ (k - 1 - 1)) ∙ ap (λ (z : ℕ). s * z) (mul_comm 2 (2 ^ (k - 1 - 1)) ∙ sym power) ∙ e
  where
    next : (k : ℕ) → 1 < k → k - 1 ≡ k - 1 - 1 + 1
    next k h = omega arith

wide : (b : ℕ) → b < 2139095040 → sig_of b < 2 ^ 24
wide b h = go (eqb (b / 8388608) 0) (b % 8388608) (mod-lt b (omega arith))
  where
    go : (c : Bool) (t : ℕ) → t < 8388608 → cond c t (t + 8388608) < 16777216
    go true t l = omega arith
    go false t l = omega arith

leading : (b : ℕ) → 1 < exp_of b → 2 ^ 23 ≤ sig_of b
leading b h = go (eqb (b / 8388608) 0) (b / 8388608) (b % 8388608) h
  where
    go : (c : Bool) (e t : ℕ) → 1 < cond c 1 e → 8388608 ≤ cond c t (t + 8388608)
    go true e t l = absurd (omega arith)
    go false e t l = omega arith

under : (s t e f : ℕ) → s < 2 ^ 24 → 2 ^ 23 ≤ t → e < f → s * 2 ^ e < t * 2 ^ f
under s t e f small big h =
    lt_of_lt_of_le (shl_lt 24 e small)
    (le_trans (pow_mono (step e f h)) (le_trans (le_of_eq (pow-add 2 23 f)) (mul-le-mul big (le_of_eq refl))))
  where
    step : (e f : ℕ) → e < f → 24 + e ≤ 23 + f
    step e f h = omega arith

-- a number of a lower exponent is its own remainder
pub lower : (a b : ℕ) → a < 2139095040 → 1 ≤ exp_of a → exp_of a < exp_of b → sig_of a * 2 ^ (exp_of a - 1) ≡ sig_of a * 2 ^ (exp_of a - 1) % (sig_of b * 2 ^ (exp_of b - 1))
lower a b h one l = sym (mod-eq_of_lt (under (sig_of a) (sig_of b) (exp_of a - 1) (exp_of b - 1) (wide a h) (leading b (above (exp_of a) (exp_of b) one l)) (less (exp_of a) (exp_of b) one l)))
  where
    above : (e f : ℕ) → 1 ≤ e → e < f → 1 < f
    above e f one l = omega arith

    less : (e f : ℕ) → 1 ≤ e → e < f → e - 1 < f - 1
    less e f one l = omega arith

-- one of at least the other's exponent
pub aligned : (s t e f m : ℕ) → 0 < t → 1 ≤ f → f ≤ e → m ≡ s * 2 ^ (e - f) % t → m * 2 ^ (f - 1) ≡ s * 2 ^ (e - 1) % (t * 2 ^ (f - 1))
aligned s t e f m p one l h =
    ap (λ (z : ℕ). z * 2 ^ (f - 1)) h
    ∙ sym (mod_scaled (s * 2 ^ (e - f)) t (2 ^ (f - 1)) p (pow_pos (f - 1)))
    ∙ ap (λ (z : ℕ). z % (t * 2 ^ (f - 1))) (mul_assoc s (2 ^ (e - f)) (2 ^ (f - 1)) ∙ ap (λ (z : ℕ). s * z) (sym (pow-add 2 (e - f) (f - 1)) ∙ ap (λ (z : ℕ). 2 ^ z) (sum e f one l)))
  where
    sum : (e f : ℕ) → 1 ≤ f → f ≤ e → e - f + (f - 1) ≡ e - 1
    sum e f one l = omega arith

-- the same, of numbers that are called otherwise
pub aligned_as : {s t e f s' t' e' f' m : ℕ} → s ≡ s' → t ≡ t' → e ≡ e' → f ≡ f' → 0 < t' → 1 ≤ f → f ≤ e → m ≡ s * 2 ^ (e - f) % t → m * 2 ^ (f - 1) ≡ s' * 2 ^ (e' - 1) % (t' * 2 ^ (f' - 1))
aligned_as {s = s} {t = t} {e = e} {f = f} {m = m} es et ee ef p one l h = aligned s t e f m (subst (λ (z : ℕ). 0 < z) (sym et) p) one l h ∙ rw (es, et, ee, ef) refl

pub leading_part : (b : ℕ) → 0 < b → b < 2139095040 → 0 < sig_of b
leading_part b p h = go (eqb (b / 8388608) 0) (b / 8388608) (b % 8388608) refl (split b p)
  where
    split : (b : ℕ) → 0 < b → 0 < b / 8388608 * 8388608 + b % 8388608
    split b p = omega arith

    go : (c : Bool) (e t : ℕ) → eqb e 0 ≡ c → 0 < e * 8388608 + t → 0 < cond c t (t + 8388608)
    go true e t z k = let none : e ≡ 0 = eqb→eq e 0 (subst T (sym z) tt) in omega arith
    go false e t z k = omega arith

-- the number of a pattern fits
bounded : (b : ℕ) → b < 2139095040 → sig_of b * 2 ^ (exp_of b - 1) < 2 ^ 277
bounded b h = lt_of_lt_of_le (shl_lt 24 (exp_of b - 1) (wide b h)) (pow_mono (go (eqb (b / 8388608) 0) (b / 8388608) (field b h)))
  where
    field : (b : ℕ) → b < 2139095040 → b / 8388608 < 255
    field b h = omega arith

    go : (c : Bool) (e : ℕ) → e < 255 → 24 + (cond c 1 e - 1) ≤ 277
    go true e l = omega arith
    go false e l = omega arith

-- ---- floats

abbrev units : ℕ → ℕ
units b = sig_of b * 2 ^ (exp_of b - 1)

-- the patterns from the infinity's on, up to the sign's place
top_field : (s : Bool) (t : ℕ) → is_finite (of_fields binary32 s 255 t) ≡ false
unfolding of_fields is_finite
top_field s t = go (eqb t 0)
  where
    go : (c : Bool) → is_finite (cond c (inf s) nan) ≡ false
    go true = refl
    go false = refl

beyond : (b : ℕ) → 2139095040 ≤ b → b < 2147483648 → is_finite (of_bits binary32 b) ≡ false
unfolding of_bits
beyond b l h = ap (λ (e : ℕ). is_finite (of_fields binary32 (leb 2147483648 b) e (b % 8388608))) (field b l h) ∙ top_field (leb 2147483648 b) (b % 8388608)
  where
    field : (b : ℕ) → 2139095040 ≤ b → b < 2147483648 → b % 2147483648 / 8388608 ≡ 255
    field b l h = omega arith

no_nan_size : (x : Float) → is_finite x ≡ true → T (not (is_nan (abs_of x)))
unfolding is_finite is_nan
no_nan_size nan h = subst T (sym h) tt
no_nan_size (inf s) h = tt
no_nan_size (fin s m e) h = tt

unsigned : (x : Float) → sign_bit (abs_of x) ≡ false
unsigned nan = refl
unsigned (inf s) = refl
unsigned (fin s m e) = refl

abs-fits : (x : Float) → T (fits binary32 x) → T (fits binary32 (abs_of x))
unfolding fits
abs-fits nan f = f
abs-fits (inf s) f = f
abs-fits (fin s m e) f = f

-- a size's pattern: below the infinity's where the number is finite
pub finite_bits : (x : Float) → T (fits binary32 x) → is_finite x ≡ true → to_bits binary32 (abs_of x) < 2139095040
finite_bits x f h = go (dec_lt (to_bits binary32 (abs_of x)) 2139095040)
  where
    low : (b : ℕ) → leb 2147483648 b ≡ false → b < 2147483648
    low b e = leb-false 2147483648 b e

    least : (b : ℕ) → (b < 2139095040 → ⊥) → 2139095040 ≤ b
    least b g = omega (arith, g)

    conflict : true ≡ false → ⊥
    conflict e = subst T e tt

    go : Dec (to_bits binary32 (abs_of x) < 2139095040) → to_bits binary32 (abs_of x) < 2139095040
    go (yes l) = l
    go (no g) =
        let b = to_bits binary32 (abs_of x) in
        let fa = abs-fits x f in
        let upper = low b (sign_bit_lem (abs_of x) fa (no_nan_size x h) ∙ unsigned x) in
        absurd (conflict (sym h ∙ sym (abs_finite x) ∙ ap is_finite (sym (of_bits-to_bits binary32 (abs_of x) fa)) ∙ beyond b (least b g) upper))

pub finite_size : (x v : Float) → v ≡ abs_of x → T (fits binary32 x) → is_finite x ≡ true → to_bits binary32 v < 2139095040
finite_size x v e f h = subst (λ (z : Float). to_bits binary32 z < 2139095040) (sym e) (finite_bits x f h)

pub size_no_nan : (x v : Float) → v ≡ abs_of x → is_finite x ≡ true → T (not (is_nan v))
size_no_nan x v e h = subst (λ (z : Float). T (not (is_nan z))) (sym e) (no_nan_size x h)

signed : (x : Float) (n : ℕ) → HasValue (abs_of x) false n (2 ^ 149) → HasValue x (sign_bit x) n (2 ^ 149)
signed nan n h = absurd h
signed (inf s) n h = absurd h
signed (fin s m e) n h = (refl, h.1)

minus : (x : Float) (n : ℕ) → HasValue x true n (2 ^ 149) → HasValue (neg x) false n (2 ^ 149)
unfolding neg
minus nan n h = absurd h
minus (inf s) n h = absurd h
minus (fin s m e) n h = (ap not h.0, h.1)

module _ (x y : Float) (a b r : ℕ) (ea : a ≡ to_bits binary32 (abs_of x)) (eb : b ≡ to_bits binary32 (abs_of y)) (fx : T (fits binary32 x)) (fy : T (fits binary32 y)) (small : r < 2139095040) where
  has : (z : Float) (n : ℕ) → n ≡ to_bits binary32 (abs_of z) → T (fits binary32 z) → n < 2139095040 → HasValue z (sign_bit z) (units n) (2 ^ 149)
  has z n e f l = signed z _ (subst (λ (u : Float). HasValue u false (units n) (2 ^ 149)) (ap (λ (k : ℕ). of_bits binary32 k) e ∙ of_bits-to_bits binary32 (abs_of z) (abs-fits z f)) (value n l))

  remains : a < 2139095040 → b < 2139095040 → 0 < b → units r ≡ units a % units b → HasValue (rem binary32 x y) (sign_bit x) (units r) (2 ^ 149)
  remains la lb p e = remainder_value (sig_of r) (exp_of r - 1) (wide r small) (bounded r small) x y (sign_bit x) (sign_bit y) (units a) (units b) (has x a ea fx la) (has y b eb fy lb) (mul-pos (leading_part b p lb) (pow_pos (exp_of b - 1))) e

  pub above_zero : a < 2139095040 → b < 2139095040 → 0 < b → units r ≡ units a % units b → sign_bit x ≡ false → of_bits binary32 r ≡ rem binary32 x y
  above_zero la lb p e s =
      same_value (of_bits binary32 r) (rem binary32 x y) (units r) (of_bits-fits binary32 r) (rem-fits binary32 x y fx) (value r small)
      (subst (λ (t : Bool). HasValue (rem binary32 x y) t (units r) (2 ^ 149)) s (remains la lb p e))

  pub below_zero : a < 2139095040 → b < 2139095040 → 0 < b → units r ≡ units a % units b → sign_bit x ≡ true → neg (of_bits binary32 r) ≡ rem binary32 x y
  below_zero la lb p e s =
      ap neg
      (same_value (of_bits binary32 r) (neg (rem binary32 x y)) (units r) (of_bits-fits binary32 r) (neg-fits binary32 (rem binary32 x y) (rem-fits binary32 x y fx)) (value r small)
      (minus (rem binary32 x y) (units r) (subst (λ (t : Bool). HasValue (rem binary32 x y) t (units r) (2 ^ 149)) s (remains la lb p e))))
      ∙ neg-neg (rem binary32 x y)

-- ---- what is no number, infinite or zero

pub no_number : (x y : Float) → is_finite x ≡ false → nan ≡ rem binary32 x y
unfolding rem is_finite
no_number nan y h = refl
no_number (inf s) y h = refl
no_number (fin s m e) y h = absurd (subst T h tt)

pub by_no_number : (x y : Float) → is_finite x ≡ true → y ≡ nan → y ≡ rem binary32 x y
unfolding rem is_finite
by_no_number nan y h e = absurd (subst T (sym h) tt)
by_no_number (inf s) y h e = absurd (subst T (sym h) tt)
by_no_number (fin s m d) y h e = e ∙ ap (λ (z : Float). rem binary32 (fin s m d) z) (sym e)

pub by_infinity : (x y : Float) → is_finite x ≡ true → T (not (is_nan y)) → is_finite y ≡ false → x ≡ rem binary32 x y
unfolding rem is_finite is_nan
by_infinity nan y h n k = absurd (subst T (sym h) tt)
by_infinity (inf s) y h n k = absurd (subst T (sym h) tt)
by_infinity (fin s m e) nan h n k = absurd n
by_infinity (fin s m e) (inf t) h n k = refl
by_infinity (fin s m e) (fin t q d) h n k = absurd (subst T k tt)

-- the digits of a number, to tell a zero
digits : Float → ℕ
digits nan = 1
digits (inf s) = 1
digits (fin s m e) = m

no_digits : (y : Float) → T (fits binary32 y) → to_bits binary32 (abs_of y) ≡ 0 → digits y ≡ 0
unfolding digits of_bits
no_digits y f e = same y ∙ ap digits (sym (of_bits-to_bits binary32 (abs_of y) (abs-fits y f)) ∙ ap (λ (b : ℕ). of_bits binary32 b) e)
  where
    same : (y : Float) → digits y ≡ digits (abs_of y)
    same nan = refl
    same (inf s) = refl
    same (fin s m d) = refl

no_divisor : (x y : Float) → digits y ≡ 0 → nan ≡ rem binary32 x y
unfolding rem digits
no_divisor nan y e = refl
no_divisor (inf s) y e = refl
no_divisor (fin s m d) nan e = refl
no_divisor (fin s m d) (inf t) e = absurd (omega arith)
no_divisor (fin s m d) (fin t q k) e = rw (eq-eqb q 0 e) refl

pub by_zero : (x y : Float) (b : ℕ) → b ≡ to_bits binary32 (abs_of y) → T (fits binary32 y) → b ≡ 0 → nan ≡ rem binary32 x y
by_zero x y b e f z = no_divisor x y (no_digits y f (sym e ∙ z))
