-- Sizes: of a size, of a finite number, of a zero and of a rounded fraction; and a size that is at most a finite number, as a fraction.
use mathlib.Core.Path.{◌≡◌, refl, sym, subst}
use mathlib.Core.Bool.{Bool, true, false, ◌&&◌, ◌||◌}
use Prim.Native.Nat.{ℕ, ◌*◌, ◌≤◌}
use native.Mathlib.Nat.{le_of_eq}
use native.Mathlib.Omega.{arith}
use lib.Dec.{T, eqb, ltb, ltb→lt, eqb→eq}
use lib.IntN.{ℤ}
use lib.Ieee.{Float, nan, inf, fin, Format, up, down, round, neg, lt, le, eq, of_bits}
use lib.Ieee.Fits.{and_l, down_pos}
use lib.Ieee.Order.{le_of_values}
use Rattle.laws.proofs.Place.{negative}
use Rattle.laws.proofs.Rounding.{round_signed}
use Rattle.scalar.specs.Arith.{f0}
use Rattle.scalar.specs.Scalar.{abs_of, is_finite}

pub neg-neg : (x : Float) → neg (neg x) ≡ x
unfolding neg
neg-neg nan = refl
neg-neg (inf true) = refl
neg-neg (inf false) = refl
neg-neg (fin true m e) = refl
neg-neg (fin false m e) = refl

pub abs-abs : (x : Float) → abs_of x ≡ abs_of (abs_of x)
abs-abs nan = refl
abs-abs (inf s) = refl
abs-abs (fin s m e) = refl

pub abs_finite : (x : Float) → is_finite (abs_of x) ≡ is_finite x
unfolding is_finite
abs_finite nan = refl
abs_finite (inf s) = refl
abs_finite (fin s m e) = refl

pub abs_is_zero : (x : Float) → eq (abs_of x) f0 ≡ eq x f0
unfolding eq of_bits
abs_is_zero nan = refl
abs_is_zero (inf s) = refl
abs_is_zero (fin true m e) = either (m * up e * 1) (0 * 1 * down e) (omega arith)
  where
    either : (a b : ℕ) → b ≡ 0 → (eqb a b && (true || eqb a 0)) ≡ (eqb a b && (false || eqb a 0))
    either a b e = rw e (go (eqb a 0))
      where
        go : (t : Bool) → (t && (true || t)) ≡ (t && (false || t))
        go true = refl
        go false = refl
abs_is_zero (fin false m e) = refl

pub abs_round : (f : Format) (a b : ℕ) → round f false a b ≡ abs_of (round f false a b)
abs_round f a b = plain (round f false a b) (round_signed f false a b).1
  where
    plain : (x : Float) → negative x ≡ false → x ≡ abs_of x
    plain nan h = refl
    plain (inf true) h = absurd (subst T h tt)
    plain (inf false) h = refl
    plain (fin true m e) h = absurd (subst T h tt)
    plain (fin false m e) h = refl

-- ---- a size that is finite
pub record Fraction (x : Float) : Type 0 where
  pub m : ℕ
  pub e : ℤ
  pub is : x ≡ fin false m e

pub finite_size : (x : Float) → x ≡ abs_of x → is_finite x ≡ true → Fraction x
unfolding is_finite
finite_size nan h f = absurd (subst T (sym f) tt)
finite_size (inf s) h f = absurd (subst T (sym f) tt)
finite_size (fin true m e) h f = let z : ◌≡◌ {A = ℕ} 0 1 = cc in absurd (omega arith)
finite_size (fin false m e) h f = record { m = m; e = e; is = refl }

pub bounded_size : (x : Float) (n : ℕ) (d : ℤ) → x ≡ abs_of x → T (le x (fin false n d)) → Fraction x
unfolding le lt eq
bounded_size nan n d h t = absurd t
bounded_size (inf true) n d h t = let z : ◌≡◌ {A = ℕ} 0 1 = cc in absurd (omega arith)
bounded_size (inf false) n d h t = absurd t
bounded_size (fin true m e) n d h t = let z : ◌≡◌ {A = ℕ} 0 1 = cc in absurd (omega arith)
bounded_size (fin false m e) n d h t = record { m = m; e = e; is = refl }

-- ---- two sizes in order, as numbers
pub le→values : (m : ℕ) (e : ℤ) (n : ℕ) (d : ℤ) → T (le (fin false m e) (fin false n d)) → m * up e * down d ≤ n * up d * down e
unfolding le lt eq
le→values m e n d t = go (m * up e * down d) (n * up d * down e) t
  where
    or_le : (x y : Bool) (a b : ℕ) → (T x → a ≤ b) → (T y → a ≤ b) → T (x || y) → a ≤ b
    or_le true y a b h k t = h tt
    or_le false y a b h k t = k t

    go : (a b : ℕ) → T (ltb a b || (eqb a b && (true || eqb a 0))) → a ≤ b
    go a b t = or_le (ltb a b) (eqb a b && (true || eqb a 0)) a b (λ h. omega (arith, ltb→lt a b h)) (λ h. le_of_eq (eqb→eq a b (and_l (eqb a b) true h))) t

pub values→le : (m : ℕ) (e : ℤ) (n : ℕ) (d : ℤ) → m * up e * down d ≤ n * up d * down e → T (le (fin false m e) (fin false n d))
values→le m e n d h = le_of_values (fin false m e) (fin false n d) (m * up e) (down e) (n * up d) (down d) (down_pos e) (down_pos d) (refl, refl) (refl, refl) h
