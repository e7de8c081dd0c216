-- Interpolation in a table in general (document 01, 'Arithmetic beneath'): how far what a table gives between two of its numbers is from the function. A number that may be below zero is a difference of two whole numbers. Definitions only.
use Rattle.std.specs.Prelude.{ℕ, suc, ◌+◌, ◌-◌, ◌*◌, ◌≤◌, ◌<◌}

-- P - N is a function on a grid of z steps and p - n its slope: a step of the function is the slope, off by at most e, and the slope changes by at most k from one grid point to the next
pub record Sloped (P N p n : ℕ → ℕ) (e k z : ℕ) : Type 0 where
  pub up : (x : ℕ) → x < z → P (suc x) + N x + n x ≤ P x + N (suc x) + p x + e
  pub down : (x : ℕ) → x < z → P x + N (suc x) + p x ≤ P (suc x) + N x + n x + e
  pub steeper : (x : ℕ) → x < z → p (suc x) + n x ≤ p x + n (suc x) + k
  pub flatter : (x : ℕ) → x < z → p x + n (suc x) ≤ p (suc x) + n x + k

-- the slope p - n is at most g in size
pub record Bounded (p n : ℕ → ℕ) (g z : ℕ) : Type 0 where
  pub rises : (x : ℕ) → x < z → p x ≤ n x + g
  pub sinks : (x : ℕ) → x < z → n x ≤ p x + g

-- p - n is R times P - N in units of U, off by at most t
pub record At (R U t P N p n : ℕ) : Type 0 where
  pub high : R * P + n * U ≤ R * N + (p + t) * U
  pub low : R * N + p * U ≤ R * P + (n + t) * U

-- m - m' is T(s) + (T(s+1) - T(s))·f/F for T(s) = p₀ - n₀ and T(s+1) = p₁ - n₁, and then /64: off by at most 65/64, as divisions toward zero are
pub record Line (F f p₀ n₀ p₁ n₁ m m' : ℕ) : Type 0 where
  pub high : (F - f) * p₀ + f * p₁ + F * (64 * m') ≤ (F - f) * n₀ + f * n₁ + F * (64 * m) + F * 65
  pub low : (F - f) * n₀ + f * n₁ + F * (64 * m) ≤ (F - f) * p₀ + f * p₁ + F * (64 * m') + F * 65

-- A table's numbers lie H grid steps apart and are R times the function, off by at most t. Then u steps on from the grid point l of one of them, where f / F is u / H rounded down, 64 times what the table gives is off by at most t + q + Q + 65 from R times the function:
-- q for its distance from the chord, Q for the fraction's rounding, 65 for the divisions
abbrev pub Interpolation : Type 0
Interpolation =
    (P N p n : ℕ → ℕ) (e k z g R U t q Q F H : ℕ) → Sloped P N p n e k z → Bounded p n g z → 0 < F → 0 < U → 0 < H →
    R * (H * (k * suc H + 4 * e)) ≤ 8 * (q * U) → R * (H * (g + e)) + 2 * t * U ≤ F * Q * U →
    (l u f p₀ n₀ p₁ n₁ m m' : ℕ) → u ≤ H → l + H ≤ z → f * H ≤ u * F → u * F ≤ f * H + H →
    At R U t (P l) (N l) p₀ n₀ → At R U t (P (l + H)) (N (l + H)) p₁ n₁ → Line F f p₀ n₀ p₁ n₁ m m' →
    At R U (t + q + Q + 65) (P (l + u)) (N (l + u)) (64 * m) (64 * m')
