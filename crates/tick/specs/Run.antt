-- Document 01, 'Turned back': the public calls that tick. Each is all or nothing.
use Rattle.std.specs.Prelude.{ℕ, ◌+◌, List, [], ◌∷◌, ◌++◌, eqb, Float, if◌then◌else◌}
use Rattle.numbers.specs.Lists.{after}
use Rattle.card.specs.Card.{card_of}
use Rattle.card.specs.Checks.{refuse, first_of}
use Rattle.loader.specs.Linkage.{linkage_of}
use Rattle.state.specs.State.{start_checks, state_checks, Answered, unless_refused}
use Rattle.tick.specs.Tick.{turned_linkage, new_state, stopped}

unfoldable pub tick_of : List ℕ → List Float → Answered
tick_of bytes s = let K = turned_linkage (linkage_of (card_of bytes)) s in unless_refused (state_checks bytes s ++ (refuse 13 (stopped K s) ∷ [])) s (new_state K s)

-- the number that a run answers, the ticks done before a refusal, and the state
pub record Ran : Type 0 where
  pub number : ℕ
  pub ticks : ℕ
  pub state : List Float

-- a tick more, unless one was refused
unfoldable pub tick_next : List ℕ → ℕ → Ran → Ran
tick_next bytes i a =
    let t = tick_of bytes a.state in
    let ticked : ℕ → Ran = (λ n. record { number = t.number; ticks = n; state = t.state }) in
    if eqb a.number 0 then (if eqb t.number 0 then ticked (a.ticks + 1) else ticked a.ticks) else a

-- a run of no ticks is asked 1 to 11 alone; a refused run leaves the state as it was handed
unfoldable pub run_of : List ℕ → List Float → ℕ → Ran
run_of bytes s n =
    let a = after (tick_next bytes) (record { number = first_of (start_checks bytes s); ticks = 0; state = s }) n in
    record { number = a.number; ticks = a.ticks; state = if eqb a.number 0 then a.state else s }
