-- What the parts of the loader hand to each other, for their own contracts: Linkage.antt needs none of it.
use Rattle.std.specs.Prelude.{ℕ, ◌+◌, ◌*◌, List, ◌++◌, map, take, drop, pos, Float}
use Rattle.std.specs.Float.{binary32}
use Rattle.std.specs.Float.Ieee.{of_int}
use Rattle.scalar.specs.Arith.{◌⊘◌, f32, f1}
use Rattle.numbers.specs.Lists.{each}
use Rattle.card.specs.Card.{at, Card, float}
use Rattle.card.specs.Parts.{float_at}
use Rattle.loader.specs.declared.header.Header.{Header}
use Rattle.loader.specs.declared.linkage.Linkage as held
use Rattle.loader.specs.Linkage.{Linkage}

unfoldable pub header_of : Card → Header
header_of c =
    let h = c.header in
    record {
      bodies = at 1 h;
      joints = at 2 h;
      dt = f1 ⊘ of_int binary32 (pos (at 3 h));
      gravity = float h 5;
      warm_coefficient = float h 6;
    }

-- the floats of a body's numbers, as Linkage.antt names them
abbrev pub body_floats_of : List ℕ → List Float
body_floats_of ns = map f32 (take 3 (drop 13 ns) ++ take 7 (drop 22 ns))

-- the floats of a joint's record
abbrev pub joint_floats : List ℕ → List Float
joint_floats bytes = each (λ k. float_at bytes (3 + 4 * k)) 30

-- the linkage that slices hold
abbrev pub linkage_in : held.Linkage → Linkage
linkage_in l = record { dt = l.dt; gravity = l.gravity; warm_coefficient = l.warm_coefficient; bodies = l.bodies.now; joints = l.joints.now }
