use Rattle.card.specs.Card.{kind_at}
use Rattle.card.specs.Parts.{kind_for}
use Rattle.card.proofs.kinds.kind_of.Goals as goal

pub returns-in-2 : goal.returns-in-2
unfolding kind_for kind_at
returns-in-2 c = rw (c.before.in-2.is, c.kind_with-in-2.ensures)
