use Rattle.std.proofs.Common.{arith, refl}
use Rattle.card.proofs.Packed as packed
use Rattle.card.proofs.bits.bits8_at.Goals as goal

pub returns : goal.returns
returns c = packed.byte _ _ _ refl (omega (arith, c.type_inv.part c.args.at))
