-- The first of the bodies are written.
use Rattle.std.proofs.Common.{◌≡◌, ◌*◌, length}
use Rattle.numbers.specs.Lists.{after}
use Rattle.numbers.proofs.Rows.{fill}
use Rattle.card.specs.Card.{body}
use Rattle.loader.specs.Linkage.{body_of}
use Rattle.loader.proofs.Records.{record_of, Row}
use Rattle.loader.proofs.load.load_bodies.Given as goal

abbrev pub invariant-loop-i : goal.invariant-loop-i
invariant-loop-i l =
    Row body l.card l.first (length l.initial.bodies) 94 l.initial.i-iterator l.i-iterator
    × (l.bodies ≡ after (fill (record_of body body_of l.card (8 * l.first))) l.initial.bodies (length l.yielded))
