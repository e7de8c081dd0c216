use Rattle.tick.proofs.Turns.{solve_is}
use Rattle.tick.proofs.linked.JointAt.solved.Goals as goal

pub returns : goal.returns
returns c =
    let a = c.args.self.now in
    rw c.pair.ensures at (solve_is a.tick a.j a.inside _ c.first-first.ensures c.second-second.ensures c.rigid.ensures c.rigid-2.ensures c.inertia.ensures c.inertia-2.ensures c.pair.result c.solve_joint.ensures)
