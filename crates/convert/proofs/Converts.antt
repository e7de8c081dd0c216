-- What a conversion that is done leaves, for any two rows of the table.
use Prim.Native.Nat.{ℕ, ◌≤◌, ◌<◌}
use native.Mathlib.Omega.{arith}
use mathlib.Core.Path.{◌≡◌, refl, sym, ap, ◌∙◌}
use mathlib.Core.Bool.{false}
use mathlib.Core.List.{List, [], ◌∷◌, ◌++◌}
use lib.ListN.{length, get_or, drop}
use lib.Seq.{take_at}
use lib.Dec.{ltb}
use borrow.Author.Tests.{le-ltb}
use Rattle.card.specs.declared.edition.Edition.TheVariants.{One, Two}
use Rattle.card.specs.Format.{bits_at, numbers_at}
use Rattle.card.specs.Card.{at, edition_of, card_of}
use Rattle.card.specs.Checks.{first_of, check_of}
use Rattle.card.proofs.Bools.{or_left}
use Rattle.card.proofs.Checking.{passed, passed_on}
use Rattle.convert.specs.Convert.{card_bytes, with_edition, converted, own_checks, too_large, conversion_check, convert_checks, conversion, convert_of}
use Rattle.convert.specs.Converts.{result_of, result, ConvertsTo, Converts}
use Rattle.convert.proofs.Editions.{Row, edition_in, row}
use Rattle.convert.proofs.Answers.{own_answer, done, none_applies, card_passed}
use Rattle.convert.proofs.Cards.{edition_read}
use Rattle.convert.proofs.Numbers.{own, card_is, has, taken_length, fitting}
use Rattle.convert.proofs.Taken.{taken, taken_accepted, taken_back}

module _ {from to : ℕ} (a : Row from) (b : Row to) (card : List ℕ) (is : bits_at card 0 8 ≡ from) (z : check_of card ≡ 0)
    (few : too_large (edition_of to) (card_of card) ≡ false) where
  abbrev new : List ℕ
  new = converted to card

  small_enough : too_large (edition_in b) (own a card is) ≡ false
  small_enough = rw (b.listed, card_is a card is) at few

  new_is : new ≡ card_bytes (edition_in b) (with_edition to (own a card is))
  new_is = rw (b.listed, card_is a card is)

  new_card : card_of new ≡ with_edition to (card_of card)
  new_card = rw (new_is, card_is a card is) (taken a b card is z small_enough)

  new_accepted : check_of new ≡ 0
  new_accepted = rw new_is (taken_accepted a b card is z small_enough)

  new_edition : bits_at new 0 8 ≡ to
  new_edition = rw new_is (edition_read b (with_edition to (own a card is)) (fitting a card is z b small_enough))

  new_long : 12 ≤ length new
  new_long = omega (arith, ap length new_is, taken_length a card is z b, b.shortest)

  -- no card is too large for the edition that it has
  own_room : too_large (edition_in a) (with_edition to (own a card is)) ≡ false
  unfolding numbers_at
  own_room =
      let h = has a card is z in
      let n = (own a card is).header in
      rw (le-ltb a.most (at 1 n) h.few_bodies, le-ltb a.most (at 2 n) h.few_joints, le-ltb a.fastest (at 3 n) h.most_rate)

  module _ (small : (i : ℕ) → get_or card i 0 < 256) where
    back_again : converted from new ≡ card
    back_again = rw (new_card, a.listed, card_is a card is) (taken_back a b card is z small_enough small)

    not_refused : (room : List ℕ) → length card ≤ length room → first_of (convert_checks to from new room) ≡ 0
    not_refused room h =
        let large : too_large (edition_of from) (card_of new) ≡ false = rw (new_card, a.listed, card_is a card is) own_room in
        passed_on (own_checks to new) (conversion_check from new room ∷ []) tt (sym (own_answer to new new_long new_edition (sym new_accepted))) ∙ rw (large, back_again, le-ltb (length room) (length card) h)

    pub back_is : (room : List ℕ) → length card ≤ length room → convert_of to from new room ≡ conversion 0 (length card) (card ++ drop (length card) room)
    back_is room h = sym (done to from new room (not_refused room h)) ∙ ap (λ l. conversion 0 (length l) (l ++ drop (length l) room)) back_again

-- ---- a conversion that is done

pub converts : {from to : ℕ} → Row from → Row to → ConvertsTo from to
converts {from} {to} a b card out small e =
    let all = none_applies from to card out e in
    let is = (card_passed from to card out e).0 in
    let z = (card_passed from to card out e).1 in
    let few = or_left (too_large (edition_of to) (card_of card)) (ltb (length out) (length (converted to card))) (passed (convert_checks from to card out) tt all 16) in
    let wrote : result from to card out ≡ converted to card =
    ap result_of (sym (done from to card out all)) ∙ take_at (converted to card) _ (length (converted to card)) refl in
    record {
      numbers = rw wrote (new_card a b card is z few);
      accepted = rw wrote (new_accepted a b card is z few);
      back = rw wrote (back_is a b card is z few small);
    }

pub both_ways : Converts
both_ways = let a = row One (omega arith) in let b = row Two (omega arith) in record { over = converts a b; back = converts b a }
