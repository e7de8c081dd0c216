use mathlib.Core.Path.{◌≡◌}
use borrow.Author.Tests.{lt-ltb}
use Rattle.card.specs.Card.{at}
use Rattle.card.specs.Format.{numbers_at}
use Rattle.card.specs.Parts.{joint_bits}
use Rattle.card.proofs.Editions.{cells, joint_of_lem}
use Rattle.loader.specs.Linkage.{kind_in}
use Rattle.loader.specs.Parts.{joint_floats}
use Rattle.loader.proofs.Records.{joint_floats_lem}
use Rattle.loader.proofs.joint.load_joint.Goals as goal

pub returns : goal.returns
unfolding joint_bits
returns c =
    let cs = (cells c.args.edition).joint in
    let ns = numbers_at cs c.args.part.bytes.now 0 in
    let kind = c.by_kind.ensures ns c.joint_bits-bits.ensures in
    let same : c.unwrap.result ≡ kind_in ns (joint_floats c.args.part.bytes.now) = cc (c.unwrap.ensures, rw (lt-ltb (at 0 ns) 5 c.requires.kind) at kind) in
    rw (same, c.joint_bits-bits.ensures, joint_floats_lem cs (joint_of_lem c.args.edition) c.args.part.bytes.now, c.breaking_load.ensures)
