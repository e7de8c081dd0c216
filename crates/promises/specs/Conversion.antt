-- Document 02, point 4: a card that is taken to the other edition keeps its numbers, and moves as it did.
use Rattle.std.specs.Prelude.{ℕ, ◌<◌, ◌≡◌, List, get_or, Float}
use Rattle.card.specs.Card.{card_of}
use Rattle.convert.specs.Convert.{convert_of}
use Rattle.convert.specs.Converts.{result, Converts}
use Rattle.loader.specs.Linkage.{linkage_of}
use Rattle.tick.specs.Run.{tick_of, run_of}

-- the card that a conversion wrote, beside the card that it was given
pub record AsBefore (card new : List ℕ) : Type 0 where
  pub linkage : linkage_of (card_of new) ≡ linkage_of (card_of card)
  -- from every state, refused or not
  pub tick : (s : List Float) → tick_of new s ≡ tick_of card s
  pub run : (s : List Float) (ticks : ℕ) → run_of new s ticks ≡ run_of card s ticks

abbrev pub MovesAsBefore : ℕ → ℕ → Type 0
MovesAsBefore from to = (card out : List ℕ) → ((i : ℕ) → get_or card i 0 < 256) → (convert_of from to card out).number ≡ 0 → AsBefore card (result from to card out)

pub record Conversions : Type 0 where
  pub kept : Converts
  pub over : MovesAsBefore 1 2
  pub back : MovesAsBefore 2 1
