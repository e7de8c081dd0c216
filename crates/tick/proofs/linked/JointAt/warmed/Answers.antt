use Rattle.tick.proofs.Turns.{warm_is}
use Rattle.tick.proofs.linked.JointAt.warmed.Goals as goal

pub returns : goal.returns
returns c =
    let a = c.args.self.now in
    rw c.pair.ensures at (warm_is a.tick a.j a.inside _ c.first-first.ensures c.second-second.ensures c.rigid.ensures c.rigid-2.ensures c.inertia.ensures c.inertia-2.ensures c.pair.result (rw c.state_length-at.ensures at c.read.ensures) c.warm_start_joint.ensures)
