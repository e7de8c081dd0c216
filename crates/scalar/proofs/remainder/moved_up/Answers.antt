use native.Mathlib.Nat.{mod-lt}
use Rattle.scalar.proofs.Remainders.{more}
use Rattle.scalar.proofs.remainder.moved_up.Goals as goal

pub loop-preserved : goal.loop-preserved
loop-preserved c = (mod-lt _ c.requires.0, more _ _ _ _ c.loop.invariant.1)
