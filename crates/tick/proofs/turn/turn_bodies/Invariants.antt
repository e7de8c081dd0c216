-- The first of the bodies are turned.
use mathlib.Core.Path.{◌≡◌}
use Rattle.numbers.specs.Lists.{after}
use Rattle.numbers.proofs.Rows.{fill}
use Rattle.loader.specs.Parts.{linkage_in}
use Rattle.tick.proofs.Turning.{turned_at}
use Rattle.tick.proofs.turn.turn_bodies.Given as goal

abbrev pub invariant-loop-i : goal.invariant-loop-i
invariant-loop-i l = l.turned ≡ after (fill (turned_at (linkage_in l.linkage) l.state)) l.initial.turned l.i
