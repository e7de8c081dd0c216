-- π by its f32, 13176795 / 2^22, which is 3373259520 of 2^-30: it is above π by at most 94 of them, from 60 terms of Euler's series at 1 on.
use Prim.Native.Nat.{ℕ, ◌+◌, ◌^◌}
use native.Mathlib.Nat.{le_refl}
use lib.Dec.{lit≤}
use Rattle.series.proofs.EulerSums.{Low, High, low_from, high_from}

pi_low_lem : Low (2 ^ 32) 3373259520 94 60 1 1
unfolding Low
pi_low_lem = lit≤ tt

pi_high_lem : High (2 ^ 32) 3373259520 59 1 1
unfolding High
pi_high_lem = lit≤ tt

pub pi_within : (i : ℕ) → Low (2 ^ 32) 3373259520 94 (60 + i) 1 1 × High (2 ^ 32) 3373259520 (59 + i) 1 1
pi_within i = (low_from (2 ^ 32) 3373259520 94 60 1 1 pi_low_lem i, high_from (2 ^ 32) 3373259520 59 1 1 (le_refl 1) pi_high_lem i)
