use Rattle.card.proofs.Packed.{next_byte}
use Rattle.card.proofs.bits.bits16_at.Goals as goal

pub returns : goal.returns
returns c = (next_byte c.args.part.now c.args.at 1 c.bits8_at.ensures c.bits8_at-2.ensures).0
