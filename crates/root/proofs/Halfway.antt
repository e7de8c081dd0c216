-- The whole number q nearest to √a, by the whole part s of √(4 a), which is twice √a: q is the half of s + 1.
use mathlib.Core.Path.{◌≡◌, sym, subst}
use mathlib.Core.Logic.{inl, inr}
use Prim.Native.Nat.{ℕ, zero, suc, ◌+◌, ◌*◌, ◌/◌, ◌%◌, ◌≤◌, ◌<◌, zero-le}
use native.Mathlib.Nat.{lt_of_not-le, lt_of_le_of_lt}
use native.Mathlib.Decide.{dec_le}
use native.Mathlib.Omega.{arith}
use Rattle.root.proofs.Floor.{sq_lt}
use Rattle.root.proofs.Rounded.{odd_mid, parity, half_even, half_odd}

-- q - 1/2 < √a < q + 1/2, squared: what `root_near` ensures
abbrev pub Near : ℕ → ℕ → Type 0
Near a q = (q * q < a + q) × (a ≤ q * q + q)

abbrev pub Floor : ℕ → ℕ → Type 0
Floor n s = (s * s ≤ n) × (n < (s + 1) * (s + 1))

even_near : (a h : ℕ) → 0 < h → Floor (4 * a) (2 * h) → Near a h
even_near a h p f = (omega (arith, f.0), omega (arith, f.1))

odd_near : (a h : ℕ) → Floor (4 * a) (2 * h + 1) → Near a (suc h)
odd_near a h f = (omega (arith, f.0), omega (arith, f.1))

near_of_floor : (a s : ℕ) → 1 < s → Floor (4 * a) s → Near a ((s + 1) / 2)
near_of_floor a s p f = elim (parity s) [
  | inl e ↦ subst (Near a) (half_even s e) (even_near a (s / 2) (some s p) (subst (Floor (4 * a)) (even s e) f))
  | inr e ↦ subst (Near a) (half_odd s e) (odd_near a (s / 2) (subst (Floor (4 * a)) (sym (odd_mid s e)) f))
]
  where
    some : (z : ℕ) → 1 < z → 0 < z / 2
    some z h = omega arith

    even : (z : ℕ) → z % 2 ≡ 0 → z ≡ 2 * (z / 2)
    even z e = omega arith

pub near_above : (a s : ℕ) → 70368744177664 ≤ a → Floor (4 * a) s → Near a ((s + 1) / 2)
near_above a s h f = near_of_floor a s (omega (arith, sq_lt 16777215 (s + 1) (lt_of_le_of_lt (omega arith) f.1))) f

pub floor_of_near : (a q : ℕ) → Near a q → (s : ℕ) × ((s + 1) / 2 ≡ q) × Floor (4 * a) s
floor_of_near a q n = go q n (dec_le (q * q) a)
  where
    after_even : (z : ℕ) → (2 * z + 1) / 2 ≡ z
    after_even z = omega arith

    after_odd : (z : ℕ) → (2 * z + 1 + 1) / 2 ≡ suc z
    after_odd z = omega arith

    go : (z : ℕ) → Near a z → Dec (z * z ≤ a) → (s : ℕ) × ((s + 1) / 2 ≡ z) × Floor (4 * a) s
    go z h (yes g) = (2 * z, after_even z, (omega (arith, g), omega (arith, h.1)))
    go zero h (no g) = absurd (g zero-le)
    go (suc z) h (no g) = (2 * z + 1, after_odd z, (omega (arith, h.0), omega (arith, lt_of_not-le g)))
