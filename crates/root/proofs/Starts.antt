-- The starting values are within one part in 256 of the exact root, by one test over the whole table, which antt computes.
use mathlib.Core.Path.{◌≡◌, refl, sym, ap, ◌∙◌, subst}
use mathlib.Core.Bool.{Bool, ◌&&◌}
use Prim.Native.Nat.{ℕ, ◌+◌, ◌-◌, ◌*◌, ◌/◌, ◌%◌, ◌^◌, ◌≤◌, ◌<◌}
use native.Mathlib.Nat.{le_trans, le_of_eq, le_antisymm, lt_of_lt_of_le, lt_of_not-le, not-le_of_lt, mul-le-mul_right, mul-le-mul_left, mul-lt-mul_of_pos_right, mul_assoc, mul_left_comm, mul-pos, mul-div-mul_right, div-lt_iff_lt-mul, le-div_iff_mul-le}
use native.Mathlib.Omega.{arith}
use lib.Dec.{T, leb, leb→le, lit<}
use lib.Pow.{pow_pos, pow_mono, pow-add}
use lib.ListN.{get_or}
use lib.Ieee.{Float, binary32, size, fits}
use lib.Ieee.Digits.{size-lt, size-le, size_reaches}
use lib.Ieee.Fits.{and_l, and_r}
use lib.Ieee.Positive.{positive}
use Rattle.laws.proofs.Place.{steps}
use Rattle.series.proofs.TableTest.{all_from, each}
use Rattle.root.specs.Parts.{whole_of}
use Rattle.root.specs.Start.{starting_values, place_of, starting_value, scaled_value, StartWithin, StartsWithin}
use Rattle.root.proofs.Closest.{in_units_lem}

-- ---- the test: the value v at place k, at both ends of the numbers d u to (d + 1) u that it serves
within : ℕ → ℕ → Bool
within k v =
    let d = k % 128 + 128 in
    let u = 2 ^ (54 - k / 128) in
    leb (65025 * ((d + 1) * u)) (65536 * (v * v)) && leb (65536 * (v * v)) (66049 * (d * u))

values_pass : T (all_from within starting_values 0)
unfolding within
values_pass = tt

Within : ℕ → ℕ → ℕ → Type 0
Within d u v = (65025 * ((d + 1) * u) ≤ 65536 * (v * v)) × (65536 * (v * v) ≤ 66049 * (d * u))

entry : (k : ℕ) → k < 256 → Within (k % 128 + 128) (2 ^ (54 - k / 128)) (get_or starting_values k 0)
unfolding within Within
entry k h =
    let d = k % 128 + 128 in
    let u = 2 ^ (54 - k / 128) in
    let v = get_or starting_values k 0 in
    let t = each within starting_values values_pass k h in
    let A = leb (65025 * ((d + 1) * u)) (65536 * (v * v)) in
    let B = leb (65536 * (v * v)) (66049 * (d * u)) in
    (leb→le (65025 * ((d + 1) * u)) (65536 * (v * v)) (and_l A B t), leb→le (65536 * (v * v)) (66049 * (d * u)) (and_r A B t))

longer : (n j : ℕ) → 2 ^ j ≤ n → j < size n
longer n j h = lt_of_not-le (λ g. not-le_of_lt (lt_of_lt_of_le (size-lt n) (pow_mono g)) h)

-- ---- the rule: n is above d and below d + 1 parts of 2 ^ (size n - 8)
module _ (n : ℕ) (wide : 62 ≤ size n) where
  abbrev s : ℕ
  s = size n

  abbrev h : ℕ
  h = (s + 1) / 2 - 31

  abbrev d : ℕ
  d = n * 2 ^ 8 / 2 ^ s

  abbrev u : ℕ
  u = 2 ^ (54 - s % 2)

  abbrev B : ℕ
  B = 2 ^ (s - 8)

  s_is : 2 ^ s ≡ B * 256
  s_is = ap (λ (z : ℕ). 2 ^ z) (back s wide) ∙ pow-add 2 (s - 8) 8
    where
      back : (z : ℕ) → 62 ≤ z → z ≡ z - 8 + 8
      back z k = omega arith

  B-is : B ≡ u * (2 ^ h * 2 ^ h)
  B-is = ap (λ (z : ℕ). 2 ^ z) (parts s wide) ∙ pow-add 2 (54 - s % 2) (h + h) ∙ ap (λ (z : ℕ). u * z) (pow-add 2 h h)
    where
      parts : (z : ℕ) → 62 ≤ z → z - 8 ≡ 54 - z % 2 + ((z + 1) / 2 - 31 + ((z + 1) / 2 - 31))
      parts z k = omega arith

  d_low : 128 ≤ d
  d_low = (le-div_iff_mul-le (pow_pos s)).1 (le_trans (le_of_eq (ap (λ (z : ℕ). 128 * 2 ^ z) (back s wide) ∙ ap (λ (z : ℕ). 128 * z) (pow-add 2 (s - 1) 1))) (twice (2 ^ (s - 1)) n (size_reaches n (s - 1) (less s wide))))
    where
      back : (z : ℕ) → 62 ≤ z → z ≡ z - 1 + 1
      back z k = omega arith

      less : (z : ℕ) → 62 ≤ z → z - 1 < z
      less z k = omega arith

      twice : (z y : ℕ) → z ≤ y → 128 * (z * 2) ≤ y * 256
      twice z y k = omega arith

  d_high : d < 256
  d_high = (div-lt_iff_lt-mul (pow_pos s)).1 (step n (2 ^ s) (size-lt n))
    where
      step : (z y : ℕ) → z < y → z * 256 < 256 * y
      step z y k = omega arith

  n_low : d * B ≤ n
  n_low = step (d * B) n (le_trans (le_of_eq (mul_assoc d B 256 ∙ ap (λ (z : ℕ). d * z) (sym s_is))) ((le-div_iff_mul-le (pow_pos s)).0 (same d)))
    where
      same : (z : ℕ) → z ≤ z
      same z = omega arith

      step : (z y : ℕ) → z * 256 ≤ y * 256 → z ≤ y
      step z y k = omega arith

  n_high : n ≤ (d + 1) * B
  n_high = step ((d + 1) * B) n (lt_of_lt_of_le ((div-lt_iff_lt-mul (pow_pos s)).0 (more d)) (le_of_eq (ap (λ (z : ℕ). (d + 1) * z) s_is ∙ sym (mul_assoc (d + 1) B 256))))
    where
      more : (z : ℕ) → z < z + 1
      more z = omega arith

      step : (z y : ℕ) → y * 256 < z * 256 → y ≤ z
      step z y k = omega arith

  place_is : (place_of n < 256) × (place_of n % 128 + 128 ≡ d) × (place_of n / 128 ≡ s % 2)
  place_is = step s d d_low d_high
    where
      step : (z y : ℕ) → 128 ≤ y → y < 256 → let k = z % 2 * 128 + y % 128 in (k < 256) × (k % 128 + 128 ≡ y) × (k / 128 ≡ z % 2)
      step z y f g = (omega arith, omega arith, omega arith)

  served : Within d u (starting_value n)
  unfolding starting_value
  served =
      subst (λ (z : ℕ). Within z u (starting_value n)) place_is.1
      (subst (λ (z : ℕ). Within (place_of n % 128 + 128) (2 ^ (54 - z)) (starting_value n)) place_is.2 (entry (place_of n) place_is.0))

  abbrev Q : ℕ
  Q = 2 ^ h * 2 ^ h

  abbrev v : ℕ
  v = starting_value n

  scaled : (e c : ℕ) → c * (e * u) * Q ≡ c * (e * B)
  scaled e c = mul_assoc c (e * u) Q ∙ ap (λ (z : ℕ). c * z) (mul_assoc e u Q ∙ ap (λ (z : ℕ). e * z) (sym B-is))

  square : 65536 * (v * v) * Q ≡ 65536 * (scaled_value n * scaled_value n)
  unfolding scaled_value
  square = mul_assoc 65536 (v * v) Q ∙ ap (λ (z : ℕ). 65536 * z) (four v (2 ^ h))
    where
      four : (y z : ℕ) → y * y * (z * z) ≡ y * z * (y * z)
      four y z = mul_assoc y y (z * z) ∙ ap (λ (x : ℕ). y * x) (mul_left_comm y z z) ∙ sym (mul_assoc y z (y * z))

  pub low : 65025 * n ≤ 65536 * (scaled_value n * scaled_value n)
  unfolding Within
  low = le_trans (mul-le-mul_left 65025 n_high) (le_trans (le_of_eq (sym (scaled (d + 1) 65025))) (le_trans (mul-le-mul_right Q served.0) (le_of_eq square)))

  pub high : 65536 * (scaled_value n * scaled_value n) ≤ 66049 * n
  unfolding Within
  high = le_trans (le_of_eq (sym square)) (le_trans (mul-le-mul_right Q served.1) (le_trans (le_of_eq (scaled d 66049)) (mul-le-mul_left 66049 n_low)))

within_of : (x : Float) → T (fits binary32 x) → T (positive x) → StartWithin x
within_of x f p =
    let X = steps binary32 x in
    let i = in_units_lem x f p in
    let n = X * 2 ^ 149 in
    record { X = X; is = i.0; low = low n (enough X i.1); high = high n (enough X i.1) }
  where
    enough : (X : ℕ) → 0 < X → 62 ≤ size (X * 2 ^ 149)
    enough X k = longer (X * 2 ^ 149) 61 (le_trans (pow_mono {i = 61} {j = 149} (omega arith)) (mul-le-mul_right (2 ^ 149) k))

pub starts_within : StartsWithin
starts_within = record { entries = refl; within = within_of }

-- ---- a pattern's place
module _ (p l : ℕ) (h : l ≤ 12) where
  abbrev w : ℕ
  w = p % 8388608 + 8388608

  abbrev e : ℕ
  e = p / 8388608 + 148 - 2 * l

  size_is : size (w * 2 ^ e) ≡ 24 + e
  size_is = le_antisymm
      (size-le (w * 2 ^ e) (24 + e) (lt_of_lt_of_le (mul-lt-mul_of_pos_right (most p) (pow_pos e)) (le_of_eq (sym (pow-add 2 24 e)))))
      (next e (size (w * 2 ^ e)) (longer (w * 2 ^ e) (23 + e) (le_trans (le_of_eq (pow-add 2 23 e)) (mul-le-mul_right (2 ^ e) (least p)))))
    where
      least : (z : ℕ) → 8388608 ≤ z % 8388608 + 8388608
      least z = omega arith

      most : (z : ℕ) → z % 8388608 + 8388608 < 16777216
      most z = omega arith

      next : (z y : ℕ) → 23 + z < y → 24 + z ≤ y
      next z y k = omega arith

  digits_are : w * 2 ^ e * 2 ^ 8 / 2 ^ (24 + e) ≡ w / 65536
  digits_are =
      ap (λ (z : ℕ). z / 2 ^ (24 + e)) (mul_assoc w (2 ^ e) 256)
      ∙ ap (λ (z : ℕ). w * (2 ^ e * 256) / z) (pow-add 2 24 e ∙ step (2 ^ e))
      ∙ mul-div-mul_right w 65536 (mul-pos (pow_pos e) (lit< tt))
    where
      step : (z : ℕ) → 16777216 * z ≡ 65536 * (z * 256)
      step z = omega arith

  place : place_of (whole_of p l) ≡ p / 65536 % 256
  place = ap (λ (z : ℕ). z % 2 * 128 + w * 2 ^ e * 2 ^ 8 / 2 ^ z % 128) size_is ∙ ap (λ (z : ℕ). (24 + e) % 2 * 128 + z % 128) digits_are ∙ step p l h
    where
      step : (z y : ℕ) → y ≤ 12 → (24 + (z / 8388608 + 148 - 2 * y)) % 2 * 128 + (z % 8388608 + 8388608) / 65536 % 128 ≡ z / 65536 % 256
      step z y k = omega arith

  pub value_at : get_or starting_values (p / 65536 % 256) 0 ≡ starting_value (whole_of p l)
  unfolding starting_value
  value_at = ap (λ (k : ℕ). get_or starting_values k 0) (sym place)
