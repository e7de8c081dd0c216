use Prim.Native.Nat.{◌*◌}
use mathlib.Core.Path.{◌≡◌}
use mathlib.Core.List.{◌++◌}
use lib.ListN.{drop}
use Rattle.card.specs.Parts.{edition_number}
use Rattle.convert.proofs.Pieces.{joints_made}
use Rattle.convert.proofs.records.Way.write_joints.Given as goal

abbrev pub invariant-loop-i : goal.invariant-loop-i
invariant-loop-i l =
    l.out ≡ joints_made (edition_number l.self.from) (edition_number l.self.to) l.card l.at l.i ++ drop (123 * l.i) l.initial.out
