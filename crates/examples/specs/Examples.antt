-- Document 01, 'Examples': every line marked P. Definitions only.
use Rattle.stages.specs.Examples as solver
use Rattle.card.specs.Examples as card

pub record Examples : Type 0 where
  -- the multiplier, the limits, the point and the caps
  pub solver : solver.Examples
  -- 105 bytes, and rates 15 and 16
  pub card : card.Examples
