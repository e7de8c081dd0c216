use lib.Ieee.{of_bits, neg}
use Rattle.card.specs.Format.{numbers_at}
use Rattle.card.proofs.RecordFaults.{body_is}
use Rattle.card.proofs.records.BodyRecord.faults.Goals as goal

pub returns : goal.returns
unfolding of_bits neg numbers_at
returns c =
    simp (c.body_bits-b.ensures, c.field.ensures, c.field-2.ensures, c.field-3.ensures, c.field-g.ensures, c.quat_at.ensures, c.length_squared.ensures, c.off_unit.ensures)
    (body_is _)
