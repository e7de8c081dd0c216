-- `outside` of -m and m, for a finite m, is 'not finite, or over m in size' (`over_is`).
-- 'Finite' is the model's constructor fin (`is_finite`), which is also what the kit's laws (`is_finite_lem`) and its library (`finite_is`) call finite.
use mathlib.Core.Path.{◌≡◌, refl, ap}
use mathlib.Core.Bool.{Bool, true, false, not, ◌&&◌}
use Prim.Native.Nat.{ℕ, ◌+◌, ◌*◌, ◌≤◌}
use native.Mathlib.Omega.{arith}
use lib.Dec.{T}
use lib.Ieee.{Float, nan, inf, fin, up, down, neg, lt, eq, le}
use lib.Ieee.Fits.{and_i, and_l, and_r}
use lib.Ieee.Scale.{finite}
use Rattle.laws.proofs.Place.{signed, at_most, at_most→, →at_most}
use Rattle.std.specs.Float.{float_is_finite}
use Rattle.scalar.specs.Scalar.{abs_of, is_finite, outside}

-- ---- `outside`
same_test : (a b : Bool) → (T a → T b) → (T b → T a) → a ≡ b
same_test true true h k = refl
same_test true false h k = absurd (h tt)
same_test false true h k = absurd (k tt)
same_test false false h k = refl

-- -b ≤ x ≤ b, where x has the size a and the sign s, says that a is at most b
module _ (a b : ℕ) where
  inside : (s t : Bool) → signed (a + b) s a ≤ signed (a + b) t b → signed (a + b) (not t) b ≤ signed (a + b) s a → signed (a + b) false a ≤ signed (a + b) t b
  inside false t h k = h
  inside true false h k = omega arith
  inside true true h k = omega arith

  both : (s t : Bool) → signed (a + b) false a ≤ signed (a + b) t b → (signed (a + b) s a ≤ signed (a + b) t b) × (signed (a + b) (not t) b ≤ signed (a + b) s a)
  both false false h = (omega arith, omega arith)
  both false true h = (omega arith, omega arith)
  both true false h = (omega arith, omega arith)
  both true true h = (omega arith, omega arith)

  in_size : (s t : Bool) → (at_most (not t) b s a && at_most s a t b) ≡ at_most false a t b
  in_size s t =
      let o = a + b in
      let p = at_most (not t) b s a in
      let q = at_most s a t b in
      let A : a ≤ o = omega arith in
      let B : b ≤ o = omega arith in
      same_test (p && q) (at_most false a t b)
      (λ (h : T (p && q)). →at_most o false a t b A B (inside s t (at_most→ o s a t b (and_r p q h)) (at_most→ o (not t) b s a (and_l p q h))))
      (λ (h : T (at_most false a t b)). let k = both s t (at_most→ o false a t b h) in and_i p q (→at_most o (not t) b s a B A k.1) (→at_most o s a t b A B k.0))

-- for a finite m, outside of -m and m is not finite, or not at most m in size
pub over_is : (x m : Float) → is_finite m ≡ true → outside x (neg m) m ≡ not (is_finite x && le (abs_of x) m)
unfolding is_finite outside le lt eq neg
over_is x nan h = cc
over_is x (inf t) h = cc
over_is nan (fin t n d) h = refl
over_is (inf true) (fin t n d) h = refl
over_is (inf false) (fin t n d) h = refl
over_is (fin s m e) (fin t n d) h = ap not (in_size (m * up e * down d) (n * up d * down e) s t)

-- ---- `is_finite`
pub is_finite_lem : (x : Float) → is_finite x ≡ finite x
unfolding is_finite
is_finite_lem nan = refl
is_finite_lem (inf s) = refl
is_finite_lem (fin s m e) = refl

pub finite_is : (x : Float) → float_is_finite x ≡ is_finite x
unfolding float_is_finite is_finite
finite_is nan = refl
finite_is (inf s) = refl
finite_is (fin s m e) = refl
