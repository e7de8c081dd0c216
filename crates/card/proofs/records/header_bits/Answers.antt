use Rattle.std.proofs.Common.{⊎_elim}
use Rattle.card.proofs.Packed as packed
use Rattle.card.specs.Format.{numbers_at}
use Rattle.card.specs.Card.{edition_of}
use Rattle.card.specs.Parts.{header_bits}
use Rattle.card.proofs.records.header_bits.Goals as goal

pub returns-in-One : goal.returns-in-One
unfolding header_bits numbers_at edition_of
returns-in-One c =
    let e = c.bits32_at-b.ensures in
    simp (
      c.in-One.is,
      packed.field _ 0 8 6 18 e,
      packed.field _ 0 14 6 12 e,
      packed.field _ 0 20 10 2 e,
      packed.field _ 0 30 2 0 e,
    )

pub returns-in-Two : goal.returns-in-Two
unfolding header_bits numbers_at edition_of
returns-in-Two c = ⊎_elim (λ e. rw e cc) (λ e. rw e cc) c.in-Two.is
