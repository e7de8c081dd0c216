-- A whole number of up to 2^24, of either sign, as an f32 over 2^24 is exactly that fraction.
use Rattle.std.proofs.Common.{◌≡◌, ℕ, zero, suc, ◌*◌, ◌^◌, ◌<◌, ◌≤◌, Bool, true, false, cond, ◌⊎◌, pos, negsuc, sym, refl, ap, ◌∙◌, subst, inl, inr, lt_of_lt_of_le, mul_assoc, eq-or-lt_of_le, mul-lt-mul_of_pos_right, mul-one, lit<, lit≤, pow_pos}
use lib.Ieee.{Float, nan, inf, fin, binary32, up, down, round, neg, div, of_int, of_bits}
use lib.Ieee.Exact.{HasValue, round_exact}
use lib.Ieee.Back.{round_whole}
use Rattle.laws.proofs.Rounding.{round_signed}
use Rattle.laws.proofs.RoundedValues.{neg_value, div_value}
use Rattle.trig.specs.Interpolation.{unit, over_unit}
use Rattle.trig.specs.Parts.{signed}

-- m / 2^24 rounds to itself
fraction : (m : ℕ) → m ≤ 2 ^ 24 → HasValue (round binary32 false m (2 ^ 24)) false m (2 ^ 24)
fraction m h = go (eq-or-lt_of_le h)
  where
    shift : (m : ℕ) → m * 2 ^ 149 ≡ m * 2 ^ 125 * 2 ^ 24
    shift m = sym (mul_assoc m (2 ^ 125) (2 ^ 24))

    go : (m ≡ 2 ^ 24) ⊎ (m < 2 ^ 24) → HasValue (round binary32 false m (2 ^ 24)) false m (2 ^ 24)
    go (inl e) = subst (λ (x : ℕ). HasValue (round binary32 false x (2 ^ 24)) false x (2 ^ 24)) (sym e) (round_exact binary32 false (2 ^ 24) (2 ^ 24) 1 149 (lit< tt) (lit< tt) (lit< tt) refl)
    go (inr l) = round_exact binary32 false m (2 ^ 24) m 125 (lit< tt) l (lt_of_lt_of_le (mul-lt-mul_of_pos_right l (pow_pos 125)) (lit≤ tt)) (shift m)

pub over_value : (m : ℕ) → m ≤ 2 ^ 24 → HasValue (over_unit (pos m)) false m (2 ^ 24)
unfolding over_unit of_int of_bits
over_value m h =
    subst (λ (x : Float). HasValue x false m (2 ^ 24)) (sym (div_value (round binary32 false m 1) false m 1 1 (pos 24) (lit< tt) (lit< tt) (round_whole binary32 false m h)))
    (subst (λ (k : ℕ). HasValue (round binary32 false k (2 ^ 24)) false m (2 ^ 24)) (sym (mul-one m)) (fraction m h))

-- ---- below zero
neg_over : (x : Float) → neg (div binary32 x unit) ≡ div binary32 (neg x) unit
unfolding div neg of_bits
neg_over nan = refl
neg_over (inf true) = refl
neg_over (inf false) = refl
neg_over (fin true m e) = sym (round_signed binary32 true (m * up e * 1) (1 * 2 ^ 24 * down e)).2
neg_over (fin false m e) = sym (round_signed binary32 false (m * up e * 1) (1 * 2 ^ 24 * down e)).2

pub minus_unit : (n : ℕ) → neg (over_unit (pos (suc n))) ≡ over_unit (negsuc n)
unfolding over_unit of_int
minus_unit n = neg_over (round binary32 false (suc n) 1) ∙ ap (λ (x : Float). div binary32 x unit) (sym (round_signed binary32 false (suc n) 1).2)

-- a zero has no sign
pub record Whole (r : Float) (b : Bool) (m : ℕ) : Type 0 where
  pub t : Bool
  pub value : HasValue r t m (2 ^ 24)
  pub plus : cond t 0 m ≡ cond b 0 m
  pub minus : cond t m 0 ≡ cond b m 0

pub whole_value : (b : Bool) (m : ℕ) → m ≤ 2 ^ 24 → Whole (over_unit (signed b m)) b m
whole_value false m h = record { t = false; value = over_value m h; plus = refl; minus = refl }
whole_value true zero h = record { t = false; value = over_value 0 h; plus = refl; minus = refl }
whole_value true (suc m) h = record {
  t = true;
  value = subst (λ (x : Float). HasValue x true (suc m) (2 ^ 24)) (minus_unit m) (neg_value (over_unit (pos (suc m))) false (suc m) (2 ^ 24) (over_value (suc m) h));
  plus = refl;
  minus = refl;
}
