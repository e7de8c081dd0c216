use lib.Ieee.{of_bits, neg}
use Rattle.card.proofs.Editions.{header_of}
use Rattle.card.proofs.RecordFaults.{header_are}
use Rattle.card.proofs.checks.header_faults.Goals as goal

pub returns : goal.returns
unfolding of_bits neg
returns c = header_are _ _ (rw c.sizes-end.ensures (header_of _)) c.header_bits-h.ensures c.field.ensures c.field-2.ensures
