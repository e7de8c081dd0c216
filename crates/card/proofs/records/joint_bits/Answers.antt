use Rattle.std.proofs.Common.{refl, ⊎_elim}
use Rattle.card.specs.Card.{edition_of}
use Rattle.card.proofs.Editions.{joint_word}
use Rattle.card.proofs.records.joint_bits.Goals as goal

pub returns-in-One : goal.returns-in-One
unfolding edition_of
returns-in-One c = rw c.in-One.is (joint_word _ 5 7 _ refl c.bits24_at-b.ensures)

pub returns-in-Two : goal.returns-in-Two
unfolding edition_of
returns-in-Two c = let b = c.bits24_at-b.ensures in ⊎_elim (λ e. rw e (joint_word _ 8 1 _ refl b)) (λ e. rw e (joint_word _ 8 1 _ refl b)) c.in-Two.is
