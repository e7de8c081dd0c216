-- A table's number between two of its steps, and a whole number over 2^24 as an f32 (document 01, 'Arithmetic beneath', sine and arctangent). Definitions only.
use Rattle.std.specs.Prelude.{ℕ, suc, ◌/◌, ℤ, pos, negsuc, ◌+ℤ◌, ◌-ℤ◌, ◌*ℤ◌, neg_ℤ, Float}
use Rattle.std.specs.Float.{binary32}
use Rattle.std.specs.Float.Ieee.{of_int}
use Rattle.scalar.specs.Arith.{◌⊘◌, f32}

-- z / d, toward zero
abbrev pub toward_zero : ℤ → ℕ → ℤ
toward_zero (pos n) d = pos (n / d)
toward_zero (negsuc n) d = neg_ℤ (pos (suc n / d))

-- t + (u - t)·f/one, at the fraction f / one between the neighbours t and u; then /64
unfoldable pub interpolated : ℕ → ℤ → ℤ → ℕ → ℤ
interpolated one t u f = toward_zero (t +ℤ toward_zero ((u -ℤ t) *ℤ pos f) one) 64

-- 2^24
abbrev pub unit : Float
unit = f32 0x4b80_0000

-- z as f32 over 2^24
unfoldable pub over_unit : ℤ → Float
over_unit z = of_int binary32 z ⊘ unit
