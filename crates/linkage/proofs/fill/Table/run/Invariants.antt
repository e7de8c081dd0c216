use Rattle.std.proofs.Common.{◌-◌}
use Rattle.linkage.proofs.fill.Table.run.Given as goal

abbrev pub decreases-loop-done : goal.decreases-loop-done
decreases-loop-done g l = l.ticks - l.done
