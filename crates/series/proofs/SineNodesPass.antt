-- The test of `SineNodes` passes at every node from 0 to 10,439: eight parts, by computation alone.
use Prim.Native.Nat.{ℕ, ◌+◌, ◌≤◌, ◌<◌}
use mathlib.Core.Logic.{inl, inr}
use native.Mathlib.Omega.{arith}
use Rattle.series.proofs.Numbers.{lt_or_le}
use Rattle.series.specs.Tables.{sines}
use Rattle.series.proofs.SinePolynomials.{L0, L1, L2, L3, whole}
use Rattle.series.proofs.SineNodes.{Passes, Node, chunk}

w0 : Passes 0
unfolding L0 L1 L2 L3 whole sines
w0 = tt

w1 : Passes 1305
unfolding L0 L1 L2 L3 whole sines
w1 = tt

w2 : Passes 2610
unfolding L0 L1 L2 L3 whole sines
w2 = tt

w3 : Passes 3915
unfolding L0 L1 L2 L3 whole sines
w3 = tt

w4 : Passes 5220
unfolding L0 L1 L2 L3 whole sines
w4 = tt

w5 : Passes 6525
unfolding L0 L1 L2 L3 whole sines
w5 = tt

w6 : Passes 7830
unfolding L0 L1 L2 L3 whole sines
w6 = tt

w7 : Passes 9135
unfolding L0 L1 L2 L3 whole sines
w7 = tt

abbrev From : ℕ → Type 0
From s = (i : ℕ) → s ≤ i → i < 10440 → Node i

step : (s : ℕ) → Passes s → From (s + 1305) → From s
step s p rest i l u = elim (lt_or_le i (s + 1305)) [ inl h ↦ chunk s p i l h | inr h ↦ rest i h u ]

none_left : From 10440
none_left i l u = absurd (omega arith)

pub passed : (i : ℕ) → i < 10440 → Node i
passed i u = step 0 w0 (step 1305 w1 (step 2610 w2 (step 3915 w3 (step 5220 w4 (step 6525 w5 (step 7830 w6 (step 9135 w7 none_left))))))) i (omega arith) u
