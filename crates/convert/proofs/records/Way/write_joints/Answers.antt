use Prim.Native.Nat.{◌+◌, ◌*◌, ◌-◌}
use native.Mathlib.Omega.{arith}
use Rattle.convert.proofs.Pieces.{next_made}
use Rattle.convert.proofs.Editions.{row}
use Rattle.convert.proofs.records.Way.write_joints.Goals as goal

pub loop-i-preserved : goal.loop-i-preserved
loop-i-preserved c =
    let a = c.args in
    let i = c.loop-i.i in
    next_made (row a.self.from a.self.convertible.0) (row a.self.to a.self.convertible.1) a.card.now a.at i (a.at + (123 * i + 123) - (a.at + 123 * i)) (123 * i + 123 - 123 * i) a.out.now (omega arith) (omega arith) c.loop-i.invariant
    c.write_joint.ensures
