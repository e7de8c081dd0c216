use Rattle.card.proofs.Packed.{next_byte}
use Rattle.card.proofs.bits.bits24_at.Goals as goal

pub returns : goal.returns
returns c = (next_byte c.args.part.now c.args.at 2 c.bits16_at.ensures c.bits8_at.ensures).0
