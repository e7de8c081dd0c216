-- The claim that sine, cosine and `atan2` lie within 2^-20 of the exact value (document 01, 'Arithmetic beneath'): of both ends of their series' brackets, at the exact argument. Definitions only.
use Rattle.std.specs.Prelude.{◌≡◌, ℕ, ◌+◌, ◌*◌, ◌^◌, ◌≤◌, Bool, true, false, ◌&&◌, T, nat_lt, Float, if◌then◌else◌}
use Rattle.std.specs.Float.{nan, inf, fin, binary32}
use Rattle.std.specs.Float.Ieee.{up, down, neg, lt, le, eq, fits}
use Rattle.scalar.specs.Arith.{f0}
use Rattle.scalar.specs.Scalar.{abs_of, is_finite}
use Rattle.series.specs.Series.{denominator, sin_term, cos_term, added, taken, euler_denominator, euler_sum, euler_term}
use Rattle.trig.specs.Sine.{sixteen, sin_of, cos_of}
use Rattle.trig.specs.Arctangent.{atan2_of}

-- (x - y) / d is at most (u - v) / e and 2^-20
unfoldable pub NotAbove : ℕ → ℕ → ℕ → ℕ → ℕ → ℕ → Type 0
NotAbove x y d u v e = 2 ^ 20 * (x * e + v * d) ≤ 2 ^ 20 * (y * e + u * d) + d * e

-- they differ by at most 2^-20
pub record Near (x y d u v e : ℕ) : Type 0 where
  pub high : NotAbove x y d u v e
  pub low : NotAbove u v e x y d

-- r is finite, and within 2^-20 of (u - v) / e
abbrev pub Within : ℕ → ℕ → ℕ → Float → Type 0
Within u v e nan = ⊥
Within u v e (inf t) = ⊥
Within u v e (fin t n d) = Near (if t then 0 else n * up d) (if t then n * up d else 0) (down d) u v e

-- ---- sine and cosine
-- of each sum of 33 or more terms at p / q: the exact value lies between each and the next
abbrev pub SumsWithin : (ℕ → ℕ → ℕ → ℕ) → ℕ → ℕ → Float → Type 0
SumsWithin term p q r = (i : ℕ) → Within (added term (33 + i) p q) (taken term (33 + i) p q) (denominator (33 + i) q) r

-- of the sine at the exact a; it is minus the sine of -a
abbrev pub SinWithin : Float → Float → Type 0
SinWithin nan r = ⊥
SinWithin (inf s) r = ⊥
SinWithin (fin s m e) r = SumsWithin sin_term (m * up e) (down e) (if s then neg r else r)

-- of the cosine, which is that of -a
abbrev pub CosWithin : Float → Float → Type 0
CosWithin nan r = ⊥
CosWithin (inf s) r = ⊥
CosWithin (fin s m e) r = SumsWithin cos_term (m * up e) (down e) r

-- ---- atan2
-- ends of the arctangent of p / q after 40 + i terms of Euler's series, over `atan_denominator`; the upper one adds the last term once more
abbrev pub atan_denominator : ℕ → ℕ → ℕ → ℕ
atan_denominator i p q = euler_denominator (40 + i) p q

abbrev pub atan_low : ℕ → ℕ → ℕ → ℕ
atan_low i p q = euler_sum (40 + i) p q

abbrev pub atan_high : ℕ → ℕ → ℕ → ℕ
atan_high i p q = euler_sum (40 + i) p q + euler_term (39 + i) p q

-- ends of π/4, the arctangent of 1, after 60 + j terms, over `quarter_denominator`
abbrev pub quarter_denominator : ℕ → ℕ
quarter_denominator j = euler_denominator (60 + j) 1 1

abbrev pub quarter_low : ℕ → ℕ
quarter_low j = euler_sum (60 + j) 1 1

abbrev pub quarter_high : ℕ → ℕ
quarter_high j = euler_sum (60 + j) 1 1 + euler_term (59 + j) 1 1

-- r is within 2^-20 of c X / B + Y / A, or where `away` of c X / B - Y / A
abbrev pub EndWithin : ℕ → Bool → ℕ → ℕ → ℕ → ℕ → Float → Type 0
EndWithin c away X B Y A r = Within (c * X * A + (if away then 0 else Y) * B) ((if away then Y else 0) * B) (A * B) r

-- both ends of c π/4 + atan (p / q), or where `away` of c π/4 - atan (p / q)
pub record AngleWithin (c : ℕ) (away : Bool) (p q : ℕ) (r : Float) : Type 0 where
  pub low : (i j : ℕ) → EndWithin c away (quarter_low j) (quarter_denominator j) (if away then atan_high i p q else atan_low i p q) (atan_denominator i p q) r
  pub high : (i j : ℕ) → EndWithin c away (quarter_high j) (quarter_denominator j) (if away then atan_low i p q else atan_high i p q) (atan_denominator i p q) r

-- the angle of (x, y) for an x of size w and a y of size h, whole numbers of one unit, by whether h is above w and whether x is below zero:
-- atan (h / w), π/2 - atan (w / h), π - atan (h / w), π/2 + atan (w / h)
abbrev pub QuadrantWithin : Bool → Bool → ℕ → ℕ → Float → Type 0
QuadrantWithin false false h w r = AngleWithin 0 false h w r
QuadrantWithin true false h w r = AngleWithin 2 true w h r
QuadrantWithin false true h w r = AngleWithin 4 true h w r
QuadrantWithin true true h w r = AngleWithin 2 false w h r

-- where y's sign bit is set, minus the angle of (x, -y)
abbrev pub Atan2Within : Float → Float → Float → Type 0
Atan2Within nan x r = ⊥
Atan2Within (inf s) x r = ⊥
Atan2Within (fin s m e) nan r = ⊥
Atan2Within (fin s m e) (inf t) r = ⊥
Atan2Within (fin s m e) (fin t n d) r =
    let h = m * up e * down d in
    let w = n * up d * down e in
    QuadrantWithin (nat_lt w h) (lt (fin t n d) f0) h w (if s then neg r else r)

-- ---- the claim
pub record Accurate : Type 0 where
  pub sine : (a : Float) → T (fits binary32 a) → T (le (abs_of a) sixteen) → SinWithin a (sin_of a)
  pub cosine : (a : Float) → T (fits binary32 a) → T (le (abs_of a) sixteen) → CosWithin a (cos_of a)
  pub atan2 : (y x : Float) → is_finite y ≡ true → is_finite x ≡ true → (eq y f0 && eq x f0) ≡ false → Atan2Within y x (atan2_of y x)
