use Rattle.card.proofs.Packed as packed
use Rattle.card.specs.Format.{numbers_at}
use Rattle.card.specs.Parts.{body_bits}
use Rattle.card.proofs.records.body_bits.Goals as goal

pub returns : goal.returns
unfolding body_bits numbers_at
returns c =
    let e = c.bits16_at-b.ensures in
    simp (
      packed.field _ 0 0 1 15 e,
      packed.field _ 0 1 1 14 e,
      packed.field _ 0 2 1 13 e,
      packed.field _ 0 3 1 12 e,
      packed.field _ 0 4 8 4 e,
      packed.field _ 0 12 4 0 e,
    )
