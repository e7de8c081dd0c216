-- Document 02, point 4: what a card keeps that is taken to the other edition, either way.
use Rattle.std.specs.Prelude.{ℕ, ◌≤◌, ◌<◌, ◌≡◌, List, ◌++◌, length, get_or, take, drop}
use Rattle.card.specs.Card.{card_of}
use Rattle.card.specs.Checks.{check_of}
use Rattle.convert.specs.Convert.{with_edition, Conversion, conversion, convert_of}

-- the bytes that a conversion wrote
abbrev pub result_of : Conversion → List ℕ
result_of a = take a.size a.out

module _ (from to : ℕ) (card out : List ℕ) where
  abbrev pub result : List ℕ
  result = result_of (convert_of from to card out)

  pub record Kept : Type 0 where
    -- the numbers of every record, but for the edition
    pub numbers : card_of result ≡ with_edition to (card_of card)
    pub accepted : check_of result ≡ 0
    -- taken back, into any slice with room for it, it has the bytes that it had
    pub back : (room : List ℕ) → length card ≤ length room → convert_of to from result room ≡ conversion 0 (length card) (card ++ drop (length card) room)

-- for every card, given as bytes, and every slice whose conversion is not refused
abbrev pub ConvertsTo : ℕ → ℕ → Type 0
ConvertsTo from to = (card out : List ℕ) → ((i : ℕ) → get_or card i 0 < 256) → (convert_of from to card out).number ≡ 0 → Kept from to card out

pub record Converts : Type 0 where
  pub over : ConvertsTo 1 2
  pub back : ConvertsTo 2 1
