-- The smaller over the larger is at most 1.
use Rattle.trig.proofs.SmallerOverLarger.{over_steep, over_flat}
use Rattle.trig.proofs.quadrant_angle.Goals as goal

pub atan-requires : goal.atan-requires
atan-requires c = over_steep c.args.h c.args.w c.requires c.if-w-h.true

pub atan-requires-else-w-h : goal.atan-requires-else-w-h
atan-requires-else-w-h c = over_flat c.args.h c.args.w c.requires c.if-w-h.false
