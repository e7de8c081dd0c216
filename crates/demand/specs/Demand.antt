-- Demand 3 over whole ticks and lists of calls: document 01, 'What demand 3 speaks of'.
use Rattle.std.specs.Prelude.{ℕ, suc, ◌*◌, ◌<◌, ◌≡◌, true, ◌⊎◌, length, get_or, take, drop, T, Float, if◌then◌else◌}
use mathlib.Core.List.{List, [], ◌∷◌, Memᴰ}
use Rattle.std.specs.Float.Ieee.{le}
use Rattle.xpbd_joints.specs.Stage.{Stage, entry_of}
use Rattle.xpbd_joints.specs.Steps.{run, MotorPush, Event, a_stage, a_push, events}
use Rattle.stages.specs.Demand.{Bounded, Capped, Softer}
use Rattle.card.specs.Card.{flag, Card, card_of}
use Rattle.card.specs.Checks.{check_of}
use Rattle.loader.specs.Linkage.{Linkage, start_body, linkage_of}
use Rattle.state.specs.State.{body_numbers, numbers_of, start_state, start_of}
use Rattle.tick.specs.Tick.{setting, put_pair, turned_linkage, skipped, steps, found, solved_to, events_at}
use Rattle.tick.specs.Run as calls

-- ---- stages and motors

-- e is a stage, or a motor's push, of a tick that is not refused, whatever its card and state
pub record EventOfTick (e : Event) : Type 0 where
  pub card : List ℕ
  pub state : List Float
  pub done : (calls.tick_of card state).number ≡ 0
  pub joint : ℕ
  pub on_card : joint < length (card_of card).joints
  pub among : Memᴰ e (events_at (turned_linkage (linkage_of (card_of card)) state) state joint)

-- ---- anchored bodies

-- a call that may write the state
pub data Call : Type 0 where
  start tick : Call
  ticks : ℕ → Call

-- the state that it leaves with the bytes that it brings, refused or not
abbrev pub leaves : Call × List ℕ → List Float → List Float
leaves (start, bytes) s = (start_of bytes s).state
leaves (tick, bytes) s = (calls.tick_of bytes s).state
leaves (ticks n, bytes) s = (calls.run_of bytes s n).state

unfoldable pub after_calls : List (Call × List ℕ) → List Float → List Float
after_calls [] s = s
after_calls (c ∷ l) s = after_calls l (leaves c s)

abbrev pub CardOrRefused : List ℕ → List ℕ → Type 0
CardOrRefused card bytes = (bytes ≡ card) ⊎ (check_of bytes ≡ 0 → ⊥)

-- each anchored body's 13 numbers in the state are the card's
abbrev pub AnchoredKept : Card → List Float → Type 0
AnchoredKept c s =
    (i : ℕ) → i < length c.bodies
    → let b = get_or c.bodies i [] in
    T (flag 0 b) → take body_numbers (drop (body_numbers * i) s) ≡ numbers_of (start_body b)

-- ---- the demand

pub record DemandThree : Type 0 where
  -- joint j's events are those of the run by which the tick's solve goes on at joint j; a joint that is skipped has none, and leaves the bodies as they are
  pub traced :
      (K : Linkage) (s : List Float) (j : ℕ)
      → let r = found K s j (solved_to K s j) in
      let bodies = (solved_to K s j).bodies in
      (events_at K s j ≡ (if skipped K s j then [] else events (setting K true j) (steps K s j) r))
      × ((solved_to K s (suc j)).bodies ≡ (if skipped K s j then bodies else put_pair K j (run (setting K true j) (steps K s j) r).bodies bodies))
  -- each stage's multiplier is exactly zero where w ≤ 2^-23, else between zero and -c / w
  pub stages : (s : Stage) → EventOfTick (a_stage s) → Bounded s
  -- each motor's multiplier is under its cap
  pub motors : (p : MotorPush) → EventOfTick (a_push p) → Capped p
  -- of two stages with the same name that read equal numbers, the compliance apart, the softer's multiplier is no larger, and in a position stage both displacements lie between the value before and the stiffer's
  pub compliances :
      (stiff soft : Stage) → EventOfTick (a_stage stiff) → EventOfTick (a_stage soft) → entry_of stiff ≡ entry_of soft → T (le stiff.compliance soft.compliance) → Softer stiff soft
  -- from the start state of a card that no check refuses, whatever calls follow, each with that card or with bytes that those checks refuse
  pub anchored :
      (card : List ℕ) → check_of card ≡ 0 → (l : List (Call × List ℕ)) → ((c : Call × List ℕ) → Memᴰ c l → CardOrRefused card c.1)
      → AnchoredKept (card_of card) (after_calls l (start_state (card_of card)))
