-- The arctangent of a rounded quotient, against Euler's sum at the exact quotient. K is 2^149 and E is 2^119.
use Rattle.std.proofs.Common.{◌≡◌, ℕ, ◌+◌, ◌-◌, ◌*◌, ◌^◌, ◌<◌, ◌≤◌, Bool, true, false, cond, T, ℤ, pos, sym, refl, ap, ◌∙◌, subst, inl, inr, le_trans, le_of_eq, lt_of_le_of_lt, le_of_lt, mul-le-mul_right, mul_comm, mul-le-mul, mul-le-mul_left, mul-pos, le_of_mul-le-mul_right, arith, lit<, lit≤}
use lib.Ieee.{Float, fin, binary32, up, down, round, lt, le, fits, of_bits}
use lib.Ieee.Exact.{HasValue}
use lib.Ieee.Fits.{down_pos, round-fits}
use Rattle.series.proofs.Numbers.{lt_or_le}
use Rattle.series.proofs.EulerSums.{Sum, sum_relax, sum_same, same_sum}
use Rattle.series.proofs.EulerNearby.{move_up, move_down, past_40}
use Rattle.scalar.proofs.Sizes.{bounded_size, le→values}
use Rattle.trig.specs.Interpolation.{over_unit}
use Rattle.scalar.specs.Scalar.{abs_of}
use Rattle.scalar.specs.Arith.{f1}
use Rattle.trig.specs.Sine.{scaled_of, sixty_fourth}
use Rattle.trig.specs.Arctangent.{atan_small, atan_at, atan_of}
use Rattle.trig.proofs.ScaledFloor.{scaled_is, one_sixteen}
use Rattle.laws.proofs.RoundedValues.{Rounded, rounded}
use Rattle.trig.proofs.SmallPowers.{small_size}
use Rattle.trig.proofs.SmallArctangent.{Arctan, small_arctan}
use Rattle.trig.proofs.TableArctangent.{table_arctan, more_low, more_high}

-- ---- a wider ε
pub widen : (a : Float) (p q ε g : ℕ) → Arctan a p q ε → Arctan a p q (ε + g)
widen a p q ε g A = record {
  s = A.s;
  G = A.G;
  value = A.value;
  y = A.y + g;
  fits = go A.y (cond A.s A.G 0) (cond A.s 0 A.G) A.fits;
  sum = wide (cond A.s 0 A.G) (cond A.s A.G 0) A.y A.sum;
}
  where
    go : (y M P : ℕ) → y + M ≡ P + ε → y + g + M ≡ P + (ε + g)
    go y M P e = omega arith

    same : (M : ℕ) → M + ε + g ≡ M + (ε + g)
    same M = omega arith

    wide : (P M y : ℕ) → Sum (2 ^ 149) P (M + ε) y 40 p q → Sum (2 ^ 149) P (M + (ε + g)) (y + g) 40 p q
    wide P M y s = subst (λ (z : ℕ). Sum (2 ^ 149) P z (y + g) 40 p q) (same M) (sum_relax (2 ^ 149) P (M + ε) y (2 ^ 149) P (M + ε + g) (y + g) 40 p q (lit< tt) (more_low P (M + ε) (2 ^ 149) g) (more_high y (2 ^ 149) g) s)

-- ---- the arctangent of an f32 from 0 to 1
at_most_1 : (m : ℕ) (e : ℤ) → T (le (fin false m e) f1) → m * up e ≤ down e
unfolding of_bits
at_most_1 m e h = go (m * up e) (down e) (le→values m e 1 (pos 0) h)
  where
    go : (a d : ℕ) → a * 1 ≤ 1 * 1 * d → a ≤ d
    go a d h = omega arith

atan_value : (m : ℕ) (e : ℤ) → T (fits binary32 (fin false m e)) → T (le (fin false m e) f1) → Arctan (atan_of (fin false m e)) (m * up e) (down e) (327 * 2 ^ 119)
unfolding atan_of
atan_value m e f h = go (lt (fin false m e) sixty_fourth) refl
  where
    go : (b : Bool) → lt (fin false m e) sixty_fourth ≡ b → Arctan (cond b (atan_small (fin false m e)) (over_unit (atan_at (scaled_of (fin false m e))))) (m * up e) (down e) (327 * 2 ^ 119)
    go true k = widen (atan_small (fin false m e)) (m * up e) (down e) (4 * 2 ^ 119) (323 * 2 ^ 119) (small_arctan (m * up e) (down e) (small_size m e k) (fin false m e) (refl, refl))
    go false k = subst (λ (z : ℕ). Arctan (over_unit (atan_at z)) (m * up e) (down e) (327 * 2 ^ 119)) (sym (scaled_is m e f (one_sixteen (fin false m e) refl h))) (table_arctan (m * up e) (down e) (down_pos e) (at_most_1 m e h))

-- ---- another fraction of the same value, and one nearby
sum_cross : (R x e y p q r s : ℕ) → 0 < q → p * s ≡ r * q → Sum R x e y 40 p q → Sum R x e y 40 r s
sum_cross R x e y p q r s qp h S = sum_same R x e y 40 q r s qp (subst (λ (z : ℕ). Sum R x e y 40 z (q * s)) (mul_comm s p ∙ h ∙ mul_comm r q) (subst (λ (z : ℕ). Sum R x e y 40 (s * p) z) (mul_comm s q) (same_sum R x e y 40 s p q S)))

close : (q d K E : ℕ) → K ≡ 2 ^ 30 * E → d ≤ 64 * E * q → K * (d * d + d * (q * K)) ≤ 65 * E * (q * K * (q * K))
close q d K E e h = le_trans (mul-le-mul_left K (sums (mul-le-mul h h) (mul-le-mul_right (q * K) h))) (rw e (last q E))
  where
    sums : d * d ≤ 64 * E * q * (64 * E * q) → d * (q * K) ≤ 64 * E * q * (q * K) → d * d + d * (q * K) ≤ 64 * E * q * (64 * E * q) + 64 * E * q * (q * K)
    sums a b = omega arith

    last : (q E : ℕ) → 2 ^ 30 * E * (64 * E * q * (64 * E * q) + 64 * E * q * (q * (2 ^ 30 * E))) ≤ 65 * E * (q * (2 ^ 30 * E) * (q * (2 ^ 30 * E)))
    last q E = omega arith

gap : (a b q E F : ℕ) → F ≡ 128 * E → 2 * a ≤ 2 * b + q * F → a - b ≤ 64 * E * q
gap a b q E F f h = omega (arith, ap (λ (z : ℕ). q * z) f)

rest : (a b : ℕ) → a ≤ b → a + (b - a) ≡ b
rest a b h = omega arith

module _ (x e y p q G K E F : ℕ) (qp : 0 < q) (pl : p ≤ q) (ke : K ≡ 2 ^ 30 * E) (f : F ≡ 128 * E) (kp : 0 < K) (tiny : K ≤ 65 * E * 2 ^ 30) (gl : G ≤ K) (S : Sum K x e y 40 (q * G) (q * K)) where
  back : Sum K x (e + 65 * E) (y + 65 * E) 40 (p * K) (q * K) → Sum K x (e + 65 * E) (y + 65 * E) 40 p q
  back S = sum_same K x (e + 65 * E) (y + 65 * E) 40 K p q kp (subst (λ (z : ℕ). Sum K x (e + 65 * E) (y + 65 * E) 40 z (K * q)) (mul_comm p K) (subst (λ (z : ℕ). Sum K x (e + 65 * E) (y + 65 * E) 40 (p * K) z) (mul_comm q K) S))

  down_to : (d : ℕ) → p * K + d ≡ q * G → d ≤ 64 * E * q → Sum K x (e + 65 * E) (y + 65 * E) 40 p q
  down_to d s b = back (move_down 40 (q * K) K x e y (65 * E) (mul-pos qp kp) past_40 tiny (p * K) d (subst (λ (z : ℕ). z ≤ q * K) (sym s) (mul-le-mul_left q gl)) (close q d K E ke b) (subst (λ (z : ℕ). Sum K x e y 40 z (q * K)) (sym s) S))

  up_to : (d : ℕ) → q * G + d ≡ p * K → d ≤ 64 * E * q → Sum K x (e + 65 * E) (y + 65 * E) 40 p q
  up_to d s b = back (subst (λ (z : ℕ). Sum K x (e + 65 * E) (y + 65 * E) 40 z (q * K)) s (move_up 40 (q * K) K x e y (65 * E) (mul-pos qp kp) past_40 tiny (q * G) d (subst (λ (z : ℕ). z ≤ q * K) (sym s) (mul-le-mul_right K pl)) (close q d K E ke b) S))

  nearby : 2 * (G * q) ≤ 2 * (p * K) + q * F → 2 * (p * K) ≤ 2 * (G * q) + q * F → Sum K x (e + 65 * E) (y + 65 * E) 40 p q
  nearby h l = elim (lt_or_le (p * K) (q * G)) [
    | inl u ↦ down_to (q * G - p * K) (rest (p * K) (q * G) (le_of_lt u)) (gap (q * G) (p * K) q E F f (subst (λ (z : ℕ). 2 * z ≤ 2 * (p * K) + q * F) (mul_comm G q) h))
    | inr u ↦ up_to (p * K - q * G) (rest (q * G) (p * K) u) (gap (p * K) (q * G) q E F f (subst (λ (z : ℕ). 2 * (p * K) ≤ 2 * z + q * F) (mul_comm G q) l))
  ]

-- from G / K to p / q, at most 64 E / K apart
to_exact : (x e y p q G : ℕ) → 0 < q → p ≤ q → G ≤ 2 ^ 149 → 2 * (G * q) ≤ 2 * (p * 2 ^ 149) + q * 2 ^ 126 → 2 * (p * 2 ^ 149) ≤ 2 * (G * q) + q * 2 ^ 126 → Sum (2 ^ 149) x e y 40 G (2 ^ 149) → Sum (2 ^ 149) x (e + 65 * 2 ^ 119) (y + 65 * 2 ^ 119) 40 p q
to_exact x e y p q G qp pl gl h l S = nearby x e y p q G (2 ^ 149) (2 ^ 119) (2 ^ 126) qp pl refl refl (lit< tt) (lit≤ tt) gl (same_sum (2 ^ 149) x e y 40 q G (2 ^ 149) S) h l

-- a rounded quotient of at most 1
small_quotient : (p q : ℕ) → p ≤ q → 0 < q → p * 2 ^ 149 < 2 ^ 24 * 2 ^ 126 * q
small_quotient p q h qp = go (2 ^ 149) (2 ^ 150) refl (lit< tt)
  where
    go : (K F : ℕ) → F ≡ 2 * K → 0 < K → p * K < F * q
    go K F e kp = rw e (lt_of_le_of_lt (mul-le-mul_right K h) (twice (mul-pos qp kp)))
      where
        twice : 0 < q * K → q * K < 2 * K * q
        twice h = omega arith

pub quotient_value : (p q : ℕ) → 0 < q → p ≤ q → T (le (round binary32 false p q) f1) → round binary32 false p q ≡ abs_of (round binary32 false p q) → Arctan (atan_of (round binary32 false p q)) p q (392 * 2 ^ 119)
unfolding of_bits
quotient_value p q qp h l s =
    let t = round binary32 false p q in
    let R = rounded false p q 150 qp (lit≤ tt) (lit≤ tt) (small_quotient p q h qp) in
    let F = bounded_size t 1 (pos 0) s l in
    go F.m F.e F.is R
  where
    G-fits : (G a d K : ℕ) → 0 < d → a * K ≡ G * d → a ≤ d → G ≤ K
    G-fits G a d K dp e h = le_of_mul-le-mul_right {k = d} (le_trans (le_of_eq (sym e)) (le_trans (mul-le-mul_right K h) (le_of_eq (mul_comm d K)))) dp

    y_fits : (y M P ε g : ℕ) → y + M ≡ P + ε → y + g + M ≡ P + (ε + g)
    y_fits y M P ε g e = omega arith

    same : (M ε g : ℕ) → M + ε + g ≡ M + (ε + g)
    same M ε g = omega arith

    go : (m : ℕ) (e : ℤ) → round binary32 false p q ≡ fin false m e → Rounded (round binary32 false p q) false p q (2 ^ 126) → Arctan (atan_of (round binary32 false p q)) p q (392 * 2 ^ 119)
    go m e is R =
        let v : HasValue (fin false m e) false R.G (2 ^ 149) = subst (λ (x : Float). HasValue x false R.G (2 ^ 149)) is R.value in
        let l' : T (le (fin false m e) f1) = subst (λ (x : Float). T (le x f1)) is l in
        let A = atan_value m e (subst (λ (x : Float). T (fits binary32 x)) is (round-fits binary32 false p q)) l' in
        let P = cond A.s 0 A.G in
        let M = cond A.s A.G 0 in
        let S = to_exact P (M + 327 * 2 ^ 119) A.y p q R.G qp h (G-fits R.G (m * up e) (down e) (2 ^ 149) (down_pos e) v.1 (at_most_1 m e l')) R.high R.low
        (sum_cross (2 ^ 149) P (M + 327 * 2 ^ 119) A.y (m * up e) (down e) R.G (2 ^ 149) (down_pos e) v.1 A.sum) in
        record {
          s = A.s;
          G = A.G;
          value = subst (λ (x : Float). HasValue (atan_of x) A.s A.G (2 ^ 149)) (sym is) A.value;
          y = A.y + 65 * 2 ^ 119;
          fits = y_fits A.y M P (327 * 2 ^ 119) (65 * 2 ^ 119) A.fits;
          sum = subst (λ (z : ℕ). Sum (2 ^ 149) P z (A.y + 65 * 2 ^ 119) 40 p q) (same M (327 * 2 ^ 119) (65 * 2 ^ 119)) S;
        }
