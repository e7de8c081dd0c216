use Rattle.root.proofs.Halfway.{near_above}
use Rattle.root.proofs.root_near.Goals as goal

pub returns : goal.returns
returns c = near_above _ _ c.requires.0 c.floor_root.ensures
