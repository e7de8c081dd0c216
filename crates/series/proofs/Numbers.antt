-- Facts of whole numbers.
use mathlib.Core.Path.{◌≡◌}
use mathlib.Core.Bool.{Bool, true, false, not}
use mathlib.Core.Logic.{◌⊎◌, inl, inr}
use Prim.Native.Nat.{ℕ, zero, suc, ◌+◌, ◌*◌, ◌^◌, ◌≤◌, ◌<◌}
use native.Mathlib.Nat.{pow-zero, pow-suc}
use native.Mathlib.Omega.{arith}
use lib.Dec.{T, ltb, ltb→lt, nltb→le}

pub lt_or_le : (i a : ℕ) → (i < a) ⊎ (a ≤ i)
lt_or_le i a = go (ltb i a) (ltb→lt i a) (nltb→le i a)
  where
    go : (t : Bool) → (T t → i < a) → (T (not t) → a ≤ i) → (i < a) ⊎ (a ≤ i)
    go true h k = inl (h tt)
    go false h k = inr (k tt)

pub swap_sums : (a b c d k : ℕ) → a + b ≤ c + d + k → b + a ≤ d + c + k
swap_sums a b c d k h = omega arith

pub mul_pow : (a b n : ℕ) → (a * b) ^ n ≡ a ^ n * b ^ n
mul_pow a b zero = rw (pow-zero (a * b), pow-zero a, pow-zero b)
mul_pow a b (suc n) = rw (pow-suc (a * b) n, pow-suc a n, pow-suc b n, mul_pow a b n) (omega arith)
