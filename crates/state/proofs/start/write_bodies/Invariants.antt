use Rattle.std.proofs.Common.{◌≡◌, ◌*◌, ◌++◌, length, drop}
use Rattle.card.specs.Format.{records_at}
use Rattle.card.specs.Card.{body}
use Rattle.loader.proofs.Records.{Row}
use Rattle.state.specs.State.{body_numbers}
use Rattle.state.specs.Parts.{start_numbers}
use Rattle.state.proofs.start.write_bodies.Given as goal

abbrev pub invariant-loop-i : goal.invariant-loop-i
invariant-loop-i l =
    Row body l.card l.at l.bodies 94 l.initial.i-iterator l.i-iterator
    × (length l.state ≡ length l.initial.state)
    × (l.state ≡ start_numbers (records_at body l.card (8 * l.at) (length l.yielded)) ++ drop (body_numbers * length l.yielded) l.initial.state)
