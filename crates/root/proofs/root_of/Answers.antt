-- `RootBits.antt` has the numbers.
use native.Mathlib.Omega.{arith}
use Rattle.root.proofs.RootBits.{all, whole, lower}
use Rattle.root.proofs.root_of.Goals as goal

pub returns : goal.returns
returns c =
    let f = all (whole c.args.p c.requires) c.root_near-q.result c.root_near-q.ensures in
    (omega arith, f.1, lower c.args.p c.requires c.root_near-q.result c.root_near-q.ensures)
