-- Near zero Euler's sum of 40 terms lies between t - t³/3 - t⁵/3 and t - t³/3 + t⁵, for t = p / q at most 1.
use mathlib.Core.Path.{◌≡◌, refl, ap}
use Prim.Native.Nat.{ℕ, ◌+◌, ◌*◌, ◌≤◌}
use native.Mathlib.Nat.{mul-le-mul_left, le_trans, le_of_eq}
use native.Mathlib.Omega.{arith}
use Rattle.series.specs.Series.{euler_denominator, euler_term, euler_sum}
use Rattle.series.proofs.EulerSums.{Sum, Low, High, low_from, high_from, sum_of}

two_terms : (p q : ℕ) → 3 * (p * (q * q * (q * q))) * euler_denominator 2 p q ≤ 3 * (q * (q * q * (q * q))) * euler_sum 2 p q + (p * (p * p * (q * q)) + p * (p * p * (p * p))) * euler_denominator 2 p q
two_terms p q = go (p * p) (q * q) refl refl
  where
    go : (P Q : ℕ) → P ≡ p * p → Q ≡ q * q → 3 * (p * (Q * Q)) * (1 * ((P + Q) * 1) * ((P + Q) * 3)) ≤ 3 * (q * (Q * Q)) * ((0 * ((P + Q) * 1) + p * q) * ((P + Q) * 3) + p * q * (P * 2)) + (p * (P * Q) + p * (P * P)) * (1 * ((P + Q) * 1) * ((P + Q) * 3))
    go P Q e f = le_trans (le_of_eq (left P Q)) (le_trans (mul-le-mul_left p (main P Q)) (le_of_eq (right P Q f)))
      where
        left : (P Q : ℕ) → 3 * (p * (Q * Q)) * (1 * ((P + Q) * 1) * ((P + Q) * 3)) ≡ p * (9 * (Q * Q * ((P + Q) * (P + Q))))
        left P Q = omega arith

        main : (P Q : ℕ) → 9 * (Q * Q * ((P + Q) * (P + Q))) ≤ 3 * (Q * (Q * Q)) * (3 * (P + Q) + 2 * P) + (P * Q + P * P) * (3 * ((P + Q) * (P + Q)))
        main P Q = omega arith

        right : (P Q : ℕ) → Q ≡ q * q → p * (3 * (Q * (Q * Q)) * (3 * (P + Q) + 2 * P) + (P * Q + P * P) * (3 * ((P + Q) * (P + Q)))) ≡ 3 * (q * (Q * Q)) * ((0 * ((P + Q) * 1) + p * q) * ((P + Q) * 3) + p * q * (P * 2)) + (p * (P * Q) + p * (P * P)) * (1 * ((P + Q) * 1) * ((P + Q) * 3))
        right P Q f = omega (arith, ap (λ (z : ℕ). p * (3 * (Q * Q) * (3 * (P + Q) + 2 * P)) * z) f)

three_terms : (p q : ℕ) → 3 * (q * (q * q * (q * q))) * (euler_sum 3 p q + euler_term 2 p q) + p * (p * p * (q * q)) * euler_denominator 3 p q ≤ (3 * (p * (q * q * (q * q))) + 3 * (p * (p * p * (p * p)))) * euler_denominator 3 p q
three_terms p q = go (p * p) (q * q) refl refl
  where
    go : (P Q : ℕ) → P ≡ p * p → Q ≡ q * q → 3 * (q * (Q * Q)) * (((0 * ((P + Q) * 1) + p * q) * ((P + Q) * 3) + p * q * (P * 2)) * ((P + Q) * 5) + p * q * (P * 2) * (P * 4) + p * q * (P * 2) * (P * 4)) + p * (P * Q) * (1 * ((P + Q) * 1) * ((P + Q) * 3) * ((P + Q) * 5)) ≤ (3 * (p * (Q * Q)) + 3 * (p * (P * P))) * (1 * ((P + Q) * 1) * ((P + Q) * 3) * ((P + Q) * 5))
    go P Q e f = le_trans (le_of_eq (left (P + Q) f)) (le_trans (mul-le-mul_left p (main P Q)) (le_of_eq (right P Q)))
      where
        inner : (A : ℕ) → ((0 * (A * 1) + p * q) * (A * 3) + p * q * (P * 2)) * (A * 5) + p * q * (P * 2) * (P * 4) + p * q * (P * 2) * (P * 4) ≡ p * q * (15 * (A * A) + 10 * (P * A) + 16 * (P * P))
        inner A = omega arith

        outer : (J : ℕ) → Q ≡ q * q → 3 * (q * (Q * Q)) * (p * q * J) ≡ p * (3 * (Q * (Q * Q)) * J)
        outer J f = omega (arith, ap (λ (z : ℕ). p * (3 * (Q * Q) * J) * z) f)

        side : (A : ℕ) → p * (P * Q) * (1 * (A * 1) * (A * 3) * (A * 5)) ≡ p * (15 * (P * Q * (A * (A * A))))
        side A = omega arith

        out : (x y : ℕ) → p * x + p * y ≡ p * (x + y)
        out x y = omega arith

        left : (A : ℕ) → Q ≡ q * q → 3 * (q * (Q * Q)) * (((0 * (A * 1) + p * q) * (A * 3) + p * q * (P * 2)) * (A * 5) + p * q * (P * 2) * (P * 4) + p * q * (P * 2) * (P * 4)) + p * (P * Q) * (1 * (A * 1) * (A * 3) * (A * 5)) ≡ p * (3 * (Q * (Q * Q)) * (15 * (A * A) + 10 * (P * A) + 16 * (P * P)) + 15 * (P * Q * (A * (A * A))))
        left A f = rw (inner A, outer (15 * (A * A) + 10 * (P * A) + 16 * (P * P)) f, side A) (out (3 * (Q * (Q * Q)) * (15 * (A * A) + 10 * (P * A) + 16 * (P * P))) (15 * (P * Q * (A * (A * A)))))

        main : (P Q : ℕ) → 3 * (Q * (Q * Q)) * (15 * ((P + Q) * (P + Q)) + 10 * (P * (P + Q)) + 16 * (P * P)) + 15 * (P * Q * ((P + Q) * ((P + Q) * (P + Q)))) ≤ 45 * ((Q * Q + P * P) * ((P + Q) * ((P + Q) * (P + Q))))
        main P Q = omega arith

        right : (P Q : ℕ) → p * (45 * ((Q * Q + P * P) * ((P + Q) * ((P + Q) * (P + Q))))) ≡ (3 * (p * (Q * Q)) + 3 * (p * (P * P))) * (1 * ((P + Q) * 1) * ((P + Q) * 3) * ((P + Q) * 5))
        right P Q = omega arith

two_low : (p q : ℕ) → Low (3 * (q * (q * q * (q * q)))) (3 * (p * (q * q * (q * q)))) (p * (p * p * (q * q)) + p * (p * p * (p * p))) 2 p q
unfolding Low
two_low p q = two_terms p q

three_high : (p q y : ℕ) → y + p * (p * p * (q * q)) ≡ 3 * (p * (q * q * (q * q))) + 3 * (p * (p * p * (p * p))) → High (3 * (q * (q * q * (q * q)))) y 2 p q
unfolding High
three_high p q y e = go (3 * (q * (q * q * (q * q))) * (euler_sum 3 p q + euler_term 2 p q)) (p * (p * p * (q * q))) (3 * (p * (q * q * (q * q))) + 3 * (p * (p * p * (p * p)))) (euler_denominator 3 p q) e (three_terms p q)
  where
    go : (N f x D : ℕ) → y + f ≡ x → N + f * D ≤ x * D → N ≤ y * D
    go N f x D e h = omega (arith, ap (λ (z : ℕ). z * D) e)

-- so at 40 terms: x - e and y are those bounds, times 3 q⁵
pub small_sum : (p q y : ℕ) → p ≤ q → y + p * (p * p * (q * q)) ≡ 3 * (p * (q * q * (q * q))) + 3 * (p * (p * p * (p * p))) →
    Sum (3 * (q * (q * q * (q * q)))) (3 * (p * (q * q * (q * q)))) (p * (p * p * (q * q)) + p * (p * p * (p * p))) y 40 p q
small_sum p q y h e =
    let R = 3 * (q * (q * q * (q * q))) in
    let x = 3 * (p * (q * q * (q * q))) in
    let f = p * (p * p * (q * q)) + p * (p * p * (p * p)) in
    sum_of R x f y 39 p q (low_from R x f 2 p q (two_low p q) 38) (high_from R y 2 p q h (three_high p q y e) 37)
