use mathlib.Core.Path.{ap, ◌∙◌}
use lib.ListN.{take, drop}
use Rattle.convert.proofs.Starts.{joint_written}
use Rattle.convert.proofs.Editions.{row}
use Rattle.convert.proofs.records.Way.write_joint.Goals as goal

pub returns : goal.returns
returns c =
    let a = c.args in
    let bits = c.copy_from_slice-2.ensures.after ∙ ap (λ l. take 3 (drop 1 l)) c.to_be_bytes.ensures in
    joint_written (row a.self.from a.self.convertible.0) (row a.self.to a.self.convertible.1) a.part.now (λ i. (c.type_inv.part i).fits) c.requires.0 c.joint_bits.ensures c.joint_bits_in-b.ensures c.copy_from_slice.ensures.after bits
