-- Document 02, point 4: a card packed from its numbers, by the cells of an edition, and the converter, which packs a card's numbers by another's.
use Rattle.std.specs.Prelude.{ℕ, zero, suc, ◌+◌, ◌*◌, ◌/◌, ◌%◌, ◌^◌, Bool, not, ◌||◌, List, [], ◌∷◌, ◌++◌, map, length, drop, set, ltb, eqb, if◌then◌else◌}
use Rattle.numbers.specs.Lists.{concat}
use Rattle.card.specs.Format.{bits_at, Cell, width_of}
use Rattle.card.specs.Card.{at, body, Edition, edition_of, edition_at, Card, card_of}
use Rattle.card.specs.Checks.{Refusal, refuse, first_of, card_checks}

-- ---- a card's bytes

-- the numbers of a record as one number, each by the width of its cell, the first most significant
unfoldable pub packed : List Cell → List ℕ → ℕ
packed [] ns = 0
packed (c ∷ cs) [] = 0
packed (c ∷ cs) (n ∷ ns) = n * 2 ^ width_of cs + packed cs ns

-- the last n bytes of a number, the most significant first
unfoldable pub bytes_of : ℕ → ℕ → List ℕ
bytes_of zero x = []
bytes_of (suc n) x = x / 256 ^ n % 256 ∷ bytes_of n x

-- a record is a whole number of bytes
abbrev pub record_bytes : List Cell → List ℕ → List ℕ
record_bytes cs ns = bytes_of (width_of cs / 8) (packed cs ns)

unfoldable pub card_bytes : Edition → Card → List ℕ
card_bytes e c = record_bytes e.header c.header ++ concat (map (record_bytes body) c.bodies) ++ concat (map (record_bytes e.joint) c.joints)

-- ---- the converter

-- every field but the edition keeps its value
abbrev pub with_edition : ℕ → Card → Card
with_edition n c = record { header = set c.header 0 n; bodies = c.bodies; joints = c.joints }

abbrev pub converted : ℕ → List ℕ → List ℕ
converted to card = card_bytes (edition_of to) (with_edition to (card_of card))

-- the card's own checks in order, where 2 is any edition but the one that the way starts from
abbrev pub own_checks : ℕ → List ℕ → List Refusal
own_checks from card = refuse 1 (ltb (length card) 12) ∷ refuse 2 (not (eqb (bits_at card 0 8) from)) ∷ card_checks (edition_at card) card (card_of card)

-- more bodies or joints than the edition has, or a faster rate
abbrev pub too_large : Edition → Card → Bool
too_large e c = ltb e.most (at 1 c.header) || ltb e.most (at 2 c.header) || ltb e.fastest (at 3 c.header)

abbrev pub conversion_check : ℕ → List ℕ → List ℕ → Refusal
conversion_check to card out = refuse 16 (too_large (edition_of to) (card_of card) || ltb (length out) (length (converted to card)))

abbrev pub convert_checks : ℕ → ℕ → List ℕ → List ℕ → List Refusal
convert_checks from to card out = own_checks from card ++ (conversion_check to card out ∷ [])

-- the number that a conversion answers, the length of its result, and the slice after it
pub record Conversion : Type 0 where
  pub number : ℕ
  pub size : ℕ
  pub out : List ℕ

abbrev pub conversion : ℕ → ℕ → List ℕ → Conversion
conversion n size out = record { number = n; size = size; out = out }

-- the first refusal that applies and the slice as it was, or the result, with the bytes past it kept
abbrev pub unless_refused : List Refusal → List ℕ → List ℕ → Conversion
unless_refused checks new out = if eqb (first_of checks) 0 then conversion 0 (length new) (new ++ drop (length new) out) else conversion (first_of checks) 0 out

unfoldable pub convert_of : ℕ → ℕ → List ℕ → List ℕ → Conversion
convert_of from to card out = unless_refused (convert_checks from to card out) (converted to card) out
