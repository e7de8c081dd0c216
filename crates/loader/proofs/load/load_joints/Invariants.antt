-- The first of the joints are written.
use Rattle.std.proofs.Common.{◌≡◌, ◌*◌, length}
use Rattle.numbers.specs.Lists.{after}
use Rattle.numbers.proofs.Rows.{fill}
use Rattle.card.specs.Parts.{sizes_of}
use Rattle.card.proofs.Editions.{cells}
use Rattle.loader.specs.Linkage.{joint_of}
use Rattle.loader.proofs.Records.{record_of, Row}
use Rattle.loader.proofs.load.load_joints.Given as goal

abbrev pub invariant-loop-j : goal.invariant-loop-j
invariant-loop-j l =
    Row (cells l.edition).joint l.card l.first (length l.initial.joints) (sizes_of l.edition).joint_bytes l.initial.j-iterator l.j-iterator
    × (l.joints ≡ after (fill (record_of (cells l.edition).joint joint_of l.card (8 * l.first))) l.initial.joints (length l.yielded))
