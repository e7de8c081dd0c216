use Rattle.card.proofs.Editions.{cells}
use native.Mathlib.Omega.{arith}
use Rattle.convert.proofs.Pieces.{rows_written}
use Rattle.convert.proofs.records.Way.write_rows.Goals as goal

pub returns : goal.returns
returns c =
    let a = c.args in
    rows_written (cells a.self.from) (cells a.self.to) a.card.now (λ i. (c.type_inv.card i).fits) a.at a.bodies a.joints a.out.now (omega (arith, c.requires.0)) (omega (arith, c.requires.1)) c.copy_from_slice.ensures.after
    c.write_joints.ensures
