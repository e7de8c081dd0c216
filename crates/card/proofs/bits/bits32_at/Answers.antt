use Rattle.card.proofs.Packed.{next_byte}
use Rattle.card.proofs.bits.bits32_at.Goals as goal

pub returns : goal.returns
returns c = (next_byte c.args.part.now c.args.at 3 c.bits24_at.ensures c.bits8_at.ensures).0
