-- Partial sums of the series of the sine, of the cosine and of Euler's for the arctangent, as whole-number fractions (document 01, 'Arithmetic beneath'). Definitions only.
use Rattle.std.specs.Prelude.{ℕ, zero, suc, ◌+◌, ◌*◌, ◌^◌, Bool, true, false, not}

-- ---- sine and cosine of p / q: term n is (-1)^n (p/q)^(2n+1) / (2n+1)!, and (-1)^n (p/q)^(2n) / (2n)!
-- after n terms the denominator is q^(2n) (2n)!, which grows by `step n` with the next
abbrev pub step : ℕ → ℕ → ℕ
step n q = q * q * ((2 * n + 1) * (2 * n + 2))

abbrev pub denominator : ℕ → ℕ → ℕ
denominator zero q = 1
denominator (suc n) q = denominator n q * step n q

-- the size of term n, over the denominator after n + 1 terms
abbrev pub sin_term : ℕ → ℕ → ℕ → ℕ
sin_term n p q = p ^ (2 * n + 1) * (q * (2 * n + 2))

abbrev pub cos_term : ℕ → ℕ → ℕ → ℕ
cos_term n p q = p ^ (2 * n) * step n q

abbrev pub when : Bool → ℕ → ℕ
when true x = x
when false x = 0

abbrev pub even : ℕ → Bool
even zero = true
even (suc n) = not (even n)

-- of the first n terms, those that s picks by whether their place is even
abbrev pub total : (ℕ → ℕ → ℕ → ℕ) → (Bool → Bool) → ℕ → ℕ → ℕ → ℕ
total term s zero p q = 0
total term s (suc n) p q = total term s n p q * step n q + when (s (even n)) (term n p q)

-- those that are added, and those that are taken away
abbrev pub added : (ℕ → ℕ → ℕ → ℕ) → ℕ → ℕ → ℕ → ℕ
added term n p q = total term (λ t. t) n p q

abbrev pub taken : (ℕ → ℕ → ℕ → ℕ) → ℕ → ℕ → ℕ → ℕ
taken term n p q = total term not n p q

-- ---- Euler's arctangent of p / q: term n is c_n p^(2n+1) q / (p² + q²)^(n+1), c_0 = 1, c_(n+1) = c_n (2n+2) / (2n+3)
-- after n terms the denominator is (p² + q²)^n (2n-1)!!
abbrev pub euler_denominator : ℕ → ℕ → ℕ → ℕ
euler_denominator zero p q = 1
euler_denominator (suc n) p q = euler_denominator n p q * ((p * p + q * q) * (2 * n + 1))

-- term n, over the denominator after n + 1 terms
abbrev pub euler_term : ℕ → ℕ → ℕ → ℕ
euler_term zero p q = p * q
euler_term (suc n) p q = euler_term n p q * (p * p * (2 * n + 2))

-- the sum of n terms
abbrev pub euler_sum : ℕ → ℕ → ℕ → ℕ
euler_sum zero p q = 0
euler_sum (suc n) p q = euler_sum n p q * ((p * p + q * q) * (2 * n + 1)) + euler_term n p q
