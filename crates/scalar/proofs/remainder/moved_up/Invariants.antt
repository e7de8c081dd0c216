use Rattle.std.proofs.Common.{◌≡◌, ◌*◌, ◌%◌, ◌^◌, ◌<◌}
use Rattle.scalar.proofs.remainder.moved_up.Given as goal

abbrev pub invariant-loop : goal.invariant-loop
invariant-loop l = (l.r < l.d) × (l.r ≡ l.m * 2 ^ l.counter % l.d)
