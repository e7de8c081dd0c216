-- The angles of the four quadrants, a, π/2 - a, π - a and π - (π/2 - a), rounded, lie within 2^-20 of the brackets, where a is near an arctangent. K is 2^149 and E is 2^119.
use Rattle.std.proofs.Common.{◌≡◌, ℕ, ◌+◌, ◌*◌, ◌^◌, ◌<◌, ◌≤◌, Bool, true, false, cond, ◌⊎◌, refl, inl, inr, mul-le-mul_left, mul-pos, le_of_mul-le-mul_right, arith, lit<, lit≤}
use lib.Ieee.{Float, binary32, sub, of_bits}
use lib.Ieee.Exact.{HasValue}
use Rattle.series.specs.Series.{euler_denominator, euler_sum}
use Rattle.series.proofs.EulerSums.{den_pos, Sum}
use Rattle.series.proofs.EulerSums as euler
use Rattle.scalar.specs.Arith.{pi}
use Rattle.trig.specs.Arctangent.{half_pi}
use Rattle.trig.specs.Accuracy.{AngleWithin}
use Rattle.trig.proofs.SmallArctangent.{Arctan}
use Rattle.trig.proofs.AngleBrackets.{Built, joined, arc_ends}
use Rattle.trig.proofs.AngleFromPi.{Less, less}

-- ---- how large the arctangent's float can be
small_plus : (P Y ε K N D : ℕ) → 0 < D → N ≤ D → P * D ≤ K * N + (Y + ε) * D → P ≤ K + Y + ε
small_plus P Y ε K N D p h l = le_of_mul-le-mul_right {k = D} (go l (mul-le-mul_left K h)) p
  where
    go : P * D ≤ K * N + (Y + ε) * D → K * N ≤ K * D → P * D ≤ (K + Y + ε) * D
    go a b = omega arith

pub record Sized (X Y K ε : ℕ) : Type 0 where
  pub plus : X ≤ K + ε
  pub minus : Y ≤ ε

plus_bound : (n p q X Y y ε : ℕ) → 0 < q → p ≤ q → Sum (2 ^ 149) X (Y + ε) y n p q → X ≤ 2 ^ 149 + Y + ε
plus_bound n p q X Y y ε qp h s = small_plus X Y ε (2 ^ 149) (euler_sum n p q) (euler_denominator n p q) (den_pos n p q qp) (euler.at_most_one p q n h (sum_pos p q (mul-pos qp qp))) s.least
  where
    sum_pos : (p q : ℕ) → 0 < q * q → 0 < p * p + q * q
    sum_pos p q h = omega arith

sized : (s : Bool) (G p q y ε : ℕ) → 0 < q → p ≤ q → y + cond s G 0 ≡ cond s 0 G + ε → Sum (2 ^ 149) (cond s 0 G) (cond s G 0 + ε) y 40 p q → Sized (cond s 0 G) (cond s G 0) (2 ^ 149) ε
sized false G p q y ε qp h e s = record { plus = go G (2 ^ 149) (plus_bound 40 p q G 0 y ε qp h s); minus = none ε }
  where
    go : (G K : ℕ) → G ≤ K + 0 + ε → G ≤ K + ε
    go G K h = omega arith

    none : (ε : ℕ) → 0 ≤ ε
    none ε = omega arith
sized true G p q y ε qp h e s = record { plus = none (2 ^ 149 + ε); minus = go y G e }
  where
    none : (z : ℕ) → 0 ≤ z
    none z = omega arith

    go : (y G : ℕ) → y + G ≡ 0 + ε → G ≤ ε
    go y G e = omega arith

-- ---- the four quadrants; every bound in units of E
record Sub (P M X Y N f : ℕ) : Type 0 where
  high : P + X ≤ M + Y + N + f
  low : M + Y + N ≤ P + X + f

halve : (P M X Y N w f : ℕ) → w ≡ 2 * f → 2 * P + 2 * X ≤ 2 * M + 2 * Y + 2 * N + w → 2 * M + 2 * Y + 2 * N ≤ 2 * P + 2 * X + w → Sub P M X Y N f
halve P M X Y N w f e h l = record { high = omega arith; low = omega arith }

half_pi_value : HasValue half_pi false (1686629760 * 2 ^ 119) (2 ^ 149)
unfolding of_bits
half_pi_value = (refl, refl)

pi_value : HasValue pi false (3373259520 * 2 ^ 119) (2 ^ 149)
unfolding of_bits
pi_value = (refl, refl)

built_away : (c P M X Y f E : ℕ) → Sub P M X Y (c * (843314880 * E)) f → Built c true X Y P M f E
built_away c P M X Y f E s = record { high = high (c * (843314880 * E)) s.high; low = low (c * (843314880 * E)) s.low }
  where
    high : (N : ℕ) → P + X ≤ M + Y + N + f → P + X ≤ M + N + Y + f
    high N h = omega arith

    low : (N : ℕ) → M + Y + N ≤ P + X + f → M + N + Y ≤ P + X + f
    low N h = omega arith

built_both : (P M R Q X Y E : ℕ) → Sub R Q X Y (1686629760 * E) (64 * E) → Sub P M R Q (3373259520 * E) (128 * E) → Built 2 false X Y P M (192 * E) E
built_both P M R Q X Y E a b = record { high = high a.low b.high; low = low a.high b.low }
  where
    high : Q + Y + 1686629760 * E ≤ R + X + 64 * E → P + R ≤ M + Q + 3373259520 * E + 128 * E → P + Y ≤ M + 2 * (843314880 * E) + X + 192 * E
    high h l = omega arith

    low : R + X ≤ Q + Y + 1686629760 * E + 64 * E → M + Q + 3373259520 * E ≤ P + R + 128 * E → M + 2 * (843314880 * E) + X ≤ P + Y + 192 * E
    low h l = omega arith

-- bounds that the rounded differences ask
plus_fits : (X K ε E B : ℕ) → 0 < E → K ≡ 2 ^ 30 * E → ε ≡ 392 * E → 2 ^ 31 * E ≤ B → X ≤ K + ε → X < B
plus_fits X K ε E B p k e b h = omega arith

half_fits : (Y ε E B : ℕ) → 0 < E → ε ≡ 392 * E → B ≡ 2 ^ 31 * E → Y ≤ ε → 1686629760 * E + Y < B
half_fits Y ε E B p e b h = omega arith

whole_fits : (Y ε E B : ℕ) → 0 < E → ε ≡ 392 * E → B ≡ 2 ^ 32 * E → Y ≤ ε → 3373259520 * E + Y < B
whole_fits Y ε E B p e b h = omega arith

module _ (p q : ℕ) (qp : 0 < q) (pq : p ≤ q) (a : Float) (A : Arctan a p q (392 * 2 ^ 119)) where
  abbrev X : ℕ
  X = cond A.s 0 A.G

  abbrev Y : ℕ
  Y = cond A.s A.G 0

  size : Sized X Y (2 ^ 149) (392 * 2 ^ 119)
  size = sized A.s A.G p q A.y (392 * 2 ^ 119) qp pq A.fits A.sum

  finish : (c : ℕ) (away : Bool) (r : Float) (t : Bool) (G f : ℕ) → c ≤ 4 → 94 * 2 ^ 119 + (392 * 2 ^ 119 + 2 ^ 119) + f ≤ 1024 * 2 ^ 119 → HasValue r t G (2 ^ 149) → Built c away X Y (cond t 0 G) (cond t G 0) f (2 ^ 119) → AngleWithin c away p q r
  finish c away r t G f cl l v b = joined c away X Y f (392 * 2 ^ 119 + 2 ^ 119) p q r t G cl l v (arc_ends X Y A.y (392 * 2 ^ 119) p q pq A.fits A.sum) b

  pub flat : AngleWithin 0 false p q a
  flat = finish 0 false a A.s A.G 0 (lit≤ tt) (lit≤ tt) A.value (record { high = go X Y (2 ^ 119); low = go' X Y (2 ^ 119) })
    where
      go : (X Y E : ℕ) → X + Y ≤ Y + 0 * (843314880 * E) + X + 0
      go X Y E = omega arith

      go' : (X Y E : ℕ) → Y + 0 * (843314880 * E) + X ≤ X + Y + 0
      go' X Y E = omega arith

  from_half : Less (sub binary32 half_pi a) (1686629760 * 2 ^ 119) X Y (2 ^ 126)
  from_half = less half_pi a (1686629760 * 2 ^ 119) A.s A.G 150 (2 ^ 150) refl half_pi_value A.value (lit≤ tt) (lit≤ tt) (lit< tt) (plus_fits X (2 ^ 149) (392 * 2 ^ 119) (2 ^ 119) (2 ^ 150) (lit< tt) refl refl (lit≤ tt) size.plus) (half_fits Y (392 * 2 ^ 119) (2 ^ 119) (2 ^ 150) (lit< tt) refl refl size.minus)

  half : let L = from_half in Sub (cond L.t 0 L.G) (cond L.t L.G 0) X Y (1686629760 * 2 ^ 119) (64 * 2 ^ 119)
  half = let L = from_half in halve (cond L.t 0 L.G) (cond L.t L.G 0) X Y (1686629760 * 2 ^ 119) (2 ^ 126) (64 * 2 ^ 119) refl L.high L.low

  pub steep : AngleWithin 2 true p q (sub binary32 half_pi a)
  steep = let L = from_half in finish 2 true (sub binary32 half_pi a) L.t L.G (64 * 2 ^ 119) (lit≤ tt) (lit≤ tt) L.value (built_away 2 (cond L.t 0 L.G) (cond L.t L.G 0) X Y (64 * 2 ^ 119) (2 ^ 119) half)

  pub left : AngleWithin 4 true p q (sub binary32 pi a)
  left =
      let L = less pi a (3373259520 * 2 ^ 119) A.s A.G 151 (2 ^ 151) refl pi_value A.value (lit≤ tt) (lit≤ tt) (lit< tt) (plus_fits X (2 ^ 149) (392 * 2 ^ 119) (2 ^ 119) (2 ^ 151) (lit< tt) refl refl (lit≤ tt) size.plus) (whole_fits Y (392 * 2 ^ 119) (2 ^ 119) (2 ^ 151) (lit< tt) refl refl size.minus) in
      finish 4 true (sub binary32 pi a) L.t L.G (128 * 2 ^ 119) (lit≤ tt) (lit≤ tt) L.value (built_away 4 (cond L.t 0 L.G) (cond L.t L.G 0) X Y (128 * 2 ^ 119) (2 ^ 119) (halve (cond L.t 0 L.G) (cond L.t L.G 0) X Y (3373259520 * 2 ^ 119) (2 ^ 127) (128 * 2 ^ 119) refl L.high L.low))

  pub both : AngleWithin 2 false p q (sub binary32 pi (sub binary32 half_pi a))
  both =
      let L = from_half in
      let R = cond L.t 0 L.G in
      let Q = cond L.t L.G 0 in
      let b = bounds R Q X Y (392 * 2 ^ 119) (2 ^ 149) (2 ^ 119) (2 ^ 151) (lit< tt) refl refl refl half size.plus size.minus (apart L.t L.G) in
      let M = less pi (sub binary32 half_pi a) (3373259520 * 2 ^ 119) L.t L.G 151 (2 ^ 151) refl pi_value L.value (lit≤ tt) (lit≤ tt) (lit< tt) b.0 b.1 in
      finish 2 false (sub binary32 pi (sub binary32 half_pi a)) M.t M.G (192 * 2 ^ 119) (lit≤ tt) (lit≤ tt) M.value (built_both (cond M.t 0 M.G) (cond M.t M.G 0) R Q X Y (2 ^ 119) half (halve (cond M.t 0 M.G) (cond M.t M.G 0) R Q (3373259520 * 2 ^ 119) (2 ^ 127) (128 * 2 ^ 119) refl M.high M.low))
    where
      apart : (t : Bool) (G : ℕ) → (cond t 0 G ≡ 0) ⊎ (cond t G 0 ≡ 0)
      apart true G = inl refl
      apart false G = inr refl

      bounds : (R Q X Y ε K E B : ℕ) → 0 < E → K ≡ 2 ^ 30 * E → ε ≡ 392 * E → B ≡ 2 ^ 32 * E → Sub R Q X Y (1686629760 * E) (64 * E) → X ≤ K + ε → Y ≤ ε → (R ≡ 0) ⊎ (Q ≡ 0) → (R < B) × (3373259520 * E + Q < B)
      bounds R Q X Y ε K E B p k e b s x y (inl z) = absurd (no s.low)
        where
          no : Q + Y + 1686629760 * E ≤ R + X + 64 * E → ⊥
          no h = omega arith
      bounds R Q X Y ε K E B p k e b s x y (inr z) = (one s.high, two s.high)
        where
          one : R + X ≤ Q + Y + 1686629760 * E + 64 * E → R < B
          one h = omega arith

          two : R + X ≤ Q + Y + 1686629760 * E + 64 * E → 3373259520 * E + Q < B
          two h = omega arith
