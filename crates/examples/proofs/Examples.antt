-- Every line of the table holds.
use Rattle.stages.proofs.Examples as solver
use Rattle.card.proofs.Examples as card
use Rattle.examples.specs.Examples.{Examples}

pub examples : Examples
examples = record { solver = solver.examples; card = card.examples }
