-- Document 02, point 11: joints that break, in a tick and over lists of calls, and those whose load is zero.
use Rattle.std.specs.Prelude.{ℕ, ◌<◌, ◌≡◌, Bool, true, false, ◌||◌, ◌⊎◌, length, get_or, take, drop, Float}
use mathlib.Core.List.{List, [], map, Memᴰ}
use Rattle.xpbd_joints.specs.Steps.{no_totals}
use Rattle.numbers.specs.Lists.{each}
use Rattle.card.specs.Card.{at, Card, card_of}
use Rattle.card.specs.Checks.{any, check_of}
use Rattle.loader.specs.Linkage.{linkage_of}
use Rattle.state.specs.State.{totals_at, broken_at, start_state}
use Rattle.tick.specs.Tick.{turned_linkage, breaks}
use Rattle.tick.specs.Run.{tick_of, run_of}
use Rattle.demand.specs.Demand.{Call, start, tick, ticks, after_calls, CardOrRefused}

-- a call other than `start`, which makes each joint whole
abbrev pub Ticking : Call → Type 0
Ticking start = ⊥
Ticking tick = Unit
Ticking (ticks n) = Unit

-- of joint j of a card
module _ (card : List ℕ) (j : ℕ) where
  abbrev pub Broken : List Float → Bool
  Broken s = broken_at (length (card_of card).bodies) s j

  -- its load is exceeded in a tick from s
  abbrev pub Exceeded : List Float → Bool
  Exceeded s = breaks (turned_linkage (linkage_of (card_of card)) s) s j

  pub record JointBreaks : Type 0 where
    pub starts_whole : Broken (start_state (card_of card)) ≡ false
    -- after a tick that is done: exactly if it was broken, or if its load is exceeded
    pub exactly : (s : List Float) → (tick_of card s).number ≡ 0 → Broken (tick_of card s).state ≡ (Broken s || Exceeded s)
    -- after any number of ticks that are done: exactly if it was broken, or if its load is exceeded in one of them
    pub exactly_in_a_run : (s : List Float) (n : ℕ) → (run_of card s n).number ≡ 0 → Broken (run_of card s n).state ≡ (Broken s || any Exceeded (each (λ i. (run_of card s i).state) n))
    pub totals_zero : (s : List Float) → (tick_of card s).number ≡ 0 → Broken s ≡ true → totals_at (length (card_of card).bodies) (tick_of card s).state j ≡ no_totals
    -- whatever ticks and runs follow, each with that card or with bytes that its checks refuse
    pub for_good :
        (l : List (Call × List ℕ)) → ((c : Call × List ℕ) → Memᴰ c l → Ticking c.0 × CardOrRefused card c.1) → (s : List Float) → Broken s ≡ true
        → Broken (after_calls l s) ≡ true

-- the bits of 0 or of -0
abbrev pub ZeroBits : ℕ → Type 0
ZeroBits n = (n ≡ 0) ⊎ (n ≡ 0x8000_0000)

-- a card of edition 3 whose breaking loads are all zero, and the card of edition 2 with its other numbers
pub record Twins (c d : Card) : Type 0 where
  -- but for the edition
  pub header : drop 1 c.header ≡ drop 1 d.header
  pub bodies : c.bodies ≡ d.bodies
  -- but for the load
  pub joints : map (take 37) c.joints ≡ d.joints
  pub loads : (j : ℕ) → ZeroBits (at 37 (get_or c.joints j []))

pub record Breaks : Type 0 where
  pub joints : (card : List ℕ) (j : ℕ) → j < length (card_of card).joints → JointBreaks card j
  -- ticks and runs of twins that are accepted answer the same and leave the same state
  pub twin :
      (card older : List ℕ) → check_of card ≡ 0 → check_of older ≡ 0 → Twins (card_of card) (card_of older) → (s : List Float)
      → (tick_of card s ≡ tick_of older s) × ((n : ℕ) → run_of card s n ≡ run_of older s n)
