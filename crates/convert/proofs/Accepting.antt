-- What the converter answers for a card that is not refused by itself.
use Prim.Native.Nat.{ℕ, ◌+◌, ◌*◌, ◌/◌}
use native.Mathlib.Omega.{arith}
use mathlib.Core.Path.{◌≡◌, sym}
use mathlib.Core.Bool.{Bool, true, false, ◌||◌}
use mathlib.Core.List.{List, [], ◌∷◌, ◌++◌}
use lib.ListN.{length, drop}
use lib.Dec.{ltb}
use Rattle.card.specs.Format.{bits_at, numbers_at}
use Rattle.card.specs.Card.{edition_of, card_of}
use Rattle.card.specs.Checks.{check_of}
use Rattle.card.specs.Parts.{card_with, header_bits}
use Rattle.card.specs.declared.records.HeaderBits.{HeaderBits}
use Rattle.convert.specs.Convert.{card_bytes, with_edition, converted, too_large, conversion_check, conversion, unless_refused}
use Rattle.convert.specs.Parts.{length_in, too_large_in}
use Rattle.convert.proofs.Editions.{Row}
use Rattle.convert.proofs.Numbers.{card_is, own_length, taken_length}

module _ {from to : ℕ} (a : Row from) (b : Row to) (card : List ℕ) (is : bits_at card 0 8 ≡ from) (z : check_of card ≡ 0) where
  module _ {h : HeaderBits} (eh : h ≡ header_bits (numbers_at (edition_of from).header card 0)) where
    pub length_is : length card ≡ a.bytes + 94 * h.bodies + 123 * h.joints
    unfolding header_bits
    length_is = rw (eh, a.listed) (own_length a card is z)

    -- its numbers in the other edition
    pub new_is : card_bytes (edition_of to) (with_edition to (card_with (edition_of from) card h.bodies h.joints)) ≡ converted to card
    unfolding header_bits
    new_is = rw (eh, a.listed, card_is a card is)

    new_length : length_in to h ≡ length (converted to card)
    unfolding length_in header_bits
    new_length =
        let size : 8 * b.bytes / 8 ≡ b.bytes = omega arith in
        rw (eh, a.listed, b.listed, b.whole_header, b.whole_joint, size, card_is a card is) (sym (taken_length a card is z b))

    large_is : too_large_in to h ≡ too_large (edition_of to) (card_of card)
    unfolding too_large_in header_bits
    large_is = rw (eh, a.listed, card_is a card is)

    module _ (out : List ℕ) {large : Bool} {n : ℕ} (el : large ≡ too_large_in to h) (en : n ≡ length_in to h) where
      test_is : {b : Bool} → (large || ltb (length out) n) ≡ b → (too_large (edition_of to) (card_of card) || ltb (length out) (length (converted to card))) ≡ b
      test_is e = rw (← large_is, ← new_length, ← el, ← en) e

      pub refused_16 : (large || ltb (length out) n) ≡ true → conversion 16 0 out ≡ unless_refused (conversion_check to card out ∷ []) (converted to card) out
      refused_16 e = rw (test_is e)

      pub done_16 : {new : List ℕ} → (large || ltb (length out) n) ≡ false → new ≡ card_bytes (edition_of to) (with_edition to (card_with (edition_of from) card h.bodies h.joints))
          → conversion 0 n (new ++ drop n out) ≡ unless_refused (conversion_check to card out ∷ []) (converted to card) out
      done_16 e ew = rw (test_is e, ew, new_is, en, new_length)
