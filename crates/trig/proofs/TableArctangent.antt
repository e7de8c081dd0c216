-- The arctangent by its table, for an f32 from 2^-6 to 1, against Euler's sum of 40 terms. K is 2^149 and E is 2^119.
use Rattle.std.proofs.Common.{◌≡◌, ℕ, ◌+◌, ◌-◌, ◌*◌, ◌/◌, ◌%◌, ◌^◌, ◌<◌, ◌≤◌, Bool, true, false, cond, ltb, get_or, ℤ, pos, sym, refl, ap, subst, le_trans, le_of_lt, mul-le-mul_right, mod-lt, mul_comm, div-lt_iff_lt-mul, mul-le-mul, le_antisymm, mul-le-mul_left, mul-pos, div-add-mod', mul-one, le_of_mul-le-mul_right, add-one, arith, lit<, lit≤, ltb-false, ltb-true}
use lib.Ieee.{Float, nan, inf, fin, up, down}
use lib.Ieee.Exact.{HasValue}
use Rattle.series.specs.Tables.{arcs}
use Rattle.series.specs.Interpolation.{Line}
use Rattle.series.proofs.ArctangentTable.{table_sum}
use Rattle.series.proofs.EulerSums.{Sum, sum_relax, sum_same, same_sum}
use Rattle.series.proofs.EulerNearby.{move_up, past_40}
use Rattle.trig.specs.Interpolation.{over_unit, interpolated, toward_zero}
use Rattle.trig.specs.Arctangent.{atan_at}
use Rattle.trig.proofs.InterpolatedSizes.{line_size, line_size_lem, finer, line_small, Off, off}
use Rattle.trig.proofs.CarriedTable.{arc_small}
use Rattle.trig.proofs.WholeOverUnit.{over_value}
use Rattle.trig.proofs.SmallArctangent.{Arctan}

arc_line : (t u f : ℕ) → f < 16384 → Line 16384 f t 0 u 0 (line_size 16384 t u f) 0
arc_line t u f h = subst (λ (m : ℕ). Line 16384 f t 0 u 0 m 0) (sym (finer t u f)) (go (line_size 65536 t u (f * 4)) (off t u (f * 4) (omega arith)))
  where
    go : (m : ℕ) → Off t u (f * 4) m → Line 16384 f t 0 u 0 m 0
    go m o = record { high = high (16384 - f) (65536 - f * 4) (omega arith) o.high; low = low (16384 - f) (65536 - f * 4) (omega arith) o.low }
      where
        high : (g g' : ℕ) → g' ≡ 4 * g → g' * t + f * 4 * u ≤ 65536 * (64 * m) + 65536 * 65 → g * t + f * u + 16384 * (64 * 0) ≤ g * 0 + f * 0 + 16384 * (64 * m) + 16384 * 65
        high g g' e h = omega (arith, ap (λ (z : ℕ). z * t) e)

        low : (g g' : ℕ) → g' ≡ 4 * g → 65536 * (64 * m) ≤ g' * t + f * 4 * u + 65536 * 65 → g * 0 + f * 0 + 16384 * (64 * m) ≤ g * t + f * u + 16384 * (64 * 0) + 16384 * 65
        low g g' e h = omega (arith, ap (λ (z : ℕ). z * t) e)

-- m / 2^24 as a number of 2^-149
units : (x : Float) (m : ℕ) → HasValue x false m (2 ^ 24) → HasValue x false (m * 2 ^ 125) (2 ^ 149)
units nan m v = v
units (inf s) m v = v
units (fin s n d) m v = (v.0, go (n * up d) (down d) (2 ^ 24) (2 ^ 125) (2 ^ 149) refl v.1)
  where
    go : (x d a b c : ℕ) → c ≡ a * b → x * a ≡ m * d → x * c ≡ m * b * d
    go x d a b c e h = rw e (omega (arith, ap (λ (z : ℕ). z * b) h))

units_low : (m K U E : ℕ) → K ≡ 2 ^ 30 * E → U ≡ 64 * E → m * U * 2 ^ 30 + 262 * K ≤ 64 * m * K + (0 + 262 * E) * 2 ^ 30
units_low m K U E e f = rw (e, f) (omega arith)

units_high : (m K U E : ℕ) → K ≡ 2 ^ 30 * E → U ≡ 64 * E → (64 * m + 262) * K ≤ (m * U + 262 * E) * 2 ^ 30
units_high m K U E e f = rw (e, f) (omega arith)

in_units_lem : (m p q : ℕ) → Sum (2 ^ 30) (64 * m) 262 (64 * m + 262) 40 p q → Sum (2 ^ 149) (m * 2 ^ 125) (0 + 262 * 2 ^ 119) (m * 2 ^ 125 + 262 * 2 ^ 119) 40 p q
in_units_lem m p q s = sum_relax (2 ^ 30) (64 * m) 262 (64 * m + 262) (2 ^ 149) (m * 2 ^ 125) (0 + 262 * 2 ^ 119) (m * 2 ^ 125 + 262 * 2 ^ 119) 40 p q (lit< tt) (units_low m (2 ^ 149) (2 ^ 125) (2 ^ 119) refl refl) (units_high m (2 ^ 149) (2 ^ 125) (2 ^ 119) refl refl) s

-- from k / 2^24 to p / q, where k is the floor of p 2^24 / q
near : (q r K E : ℕ) → r < q → K ≡ 2 ^ 30 * E → K * (r * r + r * (q * 2 ^ 24)) ≤ 65 * E * (q * 2 ^ 24 * (q * 2 ^ 24))
near q r K E l e = le_trans (mul-le-mul_left K (sums (mul-le-mul {n₁ = r} {m₁ = r} {n₂ = q} {m₂ = q} (le_of_lt l) (le_of_lt l)) (mul-le-mul_right (q * 2 ^ 24) (le_of_lt l)))) (rw e (last q E))
  where
    sums : r * r ≤ q * q → r * (q * 2 ^ 24) ≤ q * (q * 2 ^ 24) → r * r + r * (q * 2 ^ 24) ≤ q * q + q * (q * 2 ^ 24)
    sums a b = omega arith

    last : (q E : ℕ) → 2 ^ 30 * E * (q * q + q * (q * 2 ^ 24)) ≤ 65 * E * (q * 2 ^ 24 * (q * 2 ^ 24))
    last q E = omega arith

joined : (p q k r : ℕ) → k * q + r ≡ p * 2 ^ 24 → q * k + r ≡ 2 ^ 24 * p
joined p q k r e = omega arith

inside : (p q : ℕ) → p ≤ q → 2 ^ 24 * p ≤ q * 2 ^ 24
inside p q h = omega arith

to_quotient : (x e y p q k r : ℕ) → 0 < q → p ≤ q → k * q + r ≡ p * 2 ^ 24 → r < q → Sum (2 ^ 149) x e y 40 k (2 ^ 24) → Sum (2 ^ 149) x (e + 65 * 2 ^ 119) (y + 65 * 2 ^ 119) 40 p q
to_quotient x e y p q k r qp h s l b =
    let K = 2 ^ 149 in
    let g = 65 * 2 ^ 119 in
    let there = joined p q k r s in
    let m = move_up 40 (q * 2 ^ 24) K x e y g (mul-pos qp (lit< tt)) past_40 (lit≤ tt) (q * k) r (subst (λ (z : ℕ). z ≤ q * 2 ^ 24) (sym there) (inside p q h)) (near q r K (2 ^ 119) l refl) (same_sum K x e y 40 q k (2 ^ 24) b) in
    sum_same K x (e + g) (y + g) 40 (2 ^ 24) p q (lit< tt) (subst (λ (z : ℕ). Sum K x (e + g) (y + g) 40 (2 ^ 24 * p) z) (mul_comm q (2 ^ 24)) (subst (λ (z : ℕ). Sum K x (e + g) (y + g) 40 z (q * 2 ^ 24)) there m))

-- at 1
top_sum : Sum (2 ^ 30) (64 * 13176794) 262 (64 * 13176794 + 262) 40 1 1
top_sum = record { least = lit≤ tt; most = lit≤ tt }

pub more_low : (x e K g : ℕ) → x * K + e * K ≤ x * K + (e + g) * K
more_low x e K g = omega arith

pub more_high : (y K g : ℕ) → y * K ≤ (y + g) * K
more_high y K g = omega arith

more : (x e y p q : ℕ) → Sum (2 ^ 149) x e y 40 p q → Sum (2 ^ 149) x (e + 65 * 2 ^ 119) (y + 65 * 2 ^ 119) 40 p q
more x e y p q s = sum_relax (2 ^ 149) x e y (2 ^ 149) x (e + 65 * 2 ^ 119) (y + 65 * 2 ^ 119) 40 p q (lit< tt) (more_low x e (2 ^ 149) (65 * 2 ^ 119)) (more_high y (2 ^ 149) (65 * 2 ^ 119)) s

top_entry : toward_zero (pos (get_or arcs 1024 0)) 64 ≡ pos 13176794
unfolding arcs
top_entry = refl

pub table_arctan : (p q : ℕ) → 0 < q → p ≤ q → Arctan (over_unit (atan_at (p * 2 ^ 24 / q))) p q (327 * 2 ^ 119)
unfolding atan_at
table_arctan p q qp h = go (ltb (p * 2 ^ 24 / q) (2 ^ 24)) refl
  where
    made : (m : ℕ) → m ≤ 2 ^ 24 → Sum (2 ^ 149) (m * 2 ^ 125) (0 + 262 * 2 ^ 119 + 65 * 2 ^ 119) (m * 2 ^ 125 + 262 * 2 ^ 119 + 65 * 2 ^ 119) 40 p q → Arctan (over_unit (pos m)) p q (327 * 2 ^ 119)
    made m l s = record { s = false; G = m * 2 ^ 125; value = units (over_unit (pos m)) m (over_value m l); y = m * 2 ^ 125 + 262 * 2 ^ 119 + 65 * 2 ^ 119; fits = add (m * 2 ^ 125) (2 ^ 119); sum = s }
      where
        add : (x E : ℕ) → x + 262 * E + 65 * E + 0 ≡ x + 327 * E
        add x E = omega arith

    go : (b : Bool) → ltb (p * 2 ^ 24 / q) (2 ^ 24) ≡ b → Arctan (over_unit (cond b (interpolated 16384 (pos (get_or arcs (p * 2 ^ 24 / q / 16384) 0)) (pos (get_or arcs (p * 2 ^ 24 / q / 16384 + 1) 0)) (p * 2 ^ 24 / q % 16384)) (toward_zero (pos (get_or arcs 1024 0)) 64))) p q (327 * 2 ^ 119)
    go true e =
        let k = p * 2 ^ 24 / q in
        let k< : k < 2 ^ 24 = ltb-true k (2 ^ 24) e in
        let i = k / 16384 in
        let f = k % 16384 in
        let f< : f < 16384 = mod-lt k (lit< tt) in
        let i< : i < 1024 = (div-lt_iff_lt-mul (lit< tt)).1 k< in
        let t = get_or arcs i 0 in
        let u = get_or arcs (i + 1) 0 in
        let m = line_size 16384 t u f in
        let l : m ≤ 2 ^ 24 = subst (λ (z : ℕ). z ≤ 2 ^ 24) (sym (finer t u f)) (line_small t u (f * 4) (arc_small i (omega arith)) (arc_small (i + 1) (omega arith)) (omega arith)) in
        let s = table_sum k k< m (subst (λ (z : ℕ). Line 16384 f t 0 (get_or arcs z 0) 0 m 0) (add-one i) (arc_line t u f f<)) in
        subst (λ (z : ℤ). Arctan (over_unit z) p q (327 * 2 ^ 119)) (sym (line_size_lem 16384 t u f (lit< tt) (le_of_lt f<)))
        (made m l (to_quotient (m * 2 ^ 125) (0 + 262 * 2 ^ 119) (m * 2 ^ 125 + 262 * 2 ^ 119) p q k (p * 2 ^ 24 % q) qp h (div-add-mod' (p * 2 ^ 24) q) (mod-lt (p * 2 ^ 24) qp) (in_units_lem m k (2 ^ 24) s)))
    go false e =
        let k = p * 2 ^ 24 / q in
        let whole : p ≡ q = le_antisymm h (le_of_mul-le-mul_right {k = 2 ^ 24} (full k (p * 2 ^ 24 % q) (div-add-mod' (p * 2 ^ 24) q) (mul-le-mul_left q (ltb-false k (2 ^ 24) e))) (lit< tt)) in
        top (in_units_lem 13176794 p q (subst (λ (z : ℕ). Sum (2 ^ 30) (64 * 13176794) 262 (64 * 13176794 + 262) 40 p z) whole (subst (λ (z : ℕ). Sum (2 ^ 30) (64 * 13176794) 262 (64 * 13176794 + 262) 40 z z) (mul-one p) (same_sum (2 ^ 30) (64 * 13176794) 262 (64 * 13176794 + 262) 40 p 1 1 top_sum))))
      where
        full : (k r : ℕ) → k * q + r ≡ p * 2 ^ 24 → q * 2 ^ 24 ≤ q * k → q * 2 ^ 24 ≤ p * 2 ^ 24
        full k r e h = omega arith

        top : Sum (2 ^ 149) (13176794 * 2 ^ 125) (0 + 262 * 2 ^ 119) (13176794 * 2 ^ 125 + 262 * 2 ^ 119) 40 p q → Arctan (over_unit (toward_zero (pos (get_or arcs 1024 0)) 64)) p q (327 * 2 ^ 119)
        top s = last (made 13176794 (lit≤ tt) (more (13176794 * 2 ^ 125) (0 + 262 * 2 ^ 119) (13176794 * 2 ^ 125 + 262 * 2 ^ 119) p q s))
          where
            last : Arctan (over_unit (pos 13176794)) p q (327 * 2 ^ 119) → Arctan (over_unit (toward_zero (pos (get_or arcs 1024 0)) 64)) p q (327 * 2 ^ 119)
            last a = subst (λ (z : ℤ). Arctan (over_unit z) p q (327 * 2 ^ 119)) (sym top_entry) a
