use Rattle.tick.specs.Parts.{tested_of}
use Rattle.tick.proofs.joint.tested.Goals as goal

pub returns : goal.returns
unfolding tested_of
returns c = cc
