-- What the functions hand to each other, for their own contracts: State.antt needs none of it.
use Rattle.std.specs.Prelude.{ℕ, Bool, List, map, Float}
use Rattle.numbers.specs.Lists.{concat, each}
use Rattle.card.specs.Checks.{any}
use Rattle.loader.specs.Linkage.{start_body}
use Rattle.state.specs.State.{body_at, numbers_of, far_away}

unfoldable pub any_far : ℕ → List Float → Bool
any_far bodies s = any (λ b. far_away b.position) (each (body_at s) bodies)

-- the numbers that bodies start with
unfoldable pub start_numbers : List (List ℕ) → List Float
start_numbers bodies = concat (map numbers_of (map start_body bodies))
