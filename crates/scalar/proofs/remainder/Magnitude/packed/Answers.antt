use Rattle.std.proofs.Common.{arith}
use Rattle.scalar.proofs.Remainders.{halved}
use Rattle.scalar.proofs.remainder.Magnitude.packed.Goals as goal

pub loop-s-preserved : goal.loop-s-preserved
loop-s-preserved c = (omega arith, omega arith, omega arith, halved _ _ _ c.if-k-gt1.true c.loop-s.invariant.3)
