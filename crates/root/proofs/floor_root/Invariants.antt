-- The invariant: a is below the square of r + 1, which with the test that fails at the exit is the contract, and r is at most 2 ^ 26, which keeps every step within 64 bits.
-- The measure is r: a step from a guess whose square is above a gives a smaller guess (`Newton.antt`).
use Prim.Native.Nat.{◌+◌, ◌*◌, ◌≤◌, ◌<◌}
use Rattle.root.proofs.floor_root.Given as goal

abbrev pub invariant-loop-r : goal.invariant-loop-r
invariant-loop-r l = (l.a < (l.r + 1) * (l.r + 1)) × (l.r ≤ 67108864)

abbrev pub decreases-loop-r : goal.decreases-loop-r
decreases-loop-r l = l.r
