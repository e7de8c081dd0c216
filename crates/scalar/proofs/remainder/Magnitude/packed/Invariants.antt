use Rattle.std.proofs.Common.{◌≡◌, ◌*◌, ◌^◌, ◌-◌, ◌≤◌, ◌<◌}
use Rattle.scalar.proofs.remainder.Magnitude.packed.Given as goal

abbrev pub invariant-loop-s : goal.invariant-loop-s
invariant-loop-s l = (l.s < 2 ^ 24) × (1 ≤ l.k) × (l.k < 255) × (l.s * 2 ^ (l.k - 1) ≡ l.m * 2 ^ (l.e - 1))

abbrev pub decreases-loop-s : goal.decreases-loop-s
decreases-loop-s l = l.k
