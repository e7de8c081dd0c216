-- How long a result can be.
use Prim.Native.Nat.{ℕ, ◌≤◌}
use native.Mathlib.Omega.{arith}
use mathlib.Core.Path.{◌≡◌, refl}
use mathlib.Core.Bool.{Bool, true, false}
use mathlib.Core.List.{List, [], ◌∷◌}
use lib.ListN.{length}
use lib.Dec.{eqb}
use borrow.Author.Tests.{eqb-true}
use Rattle.card.specs.Format.{bits_at}
use Rattle.card.specs.Checks.{first_of, check_of}
use Rattle.card.specs.declared.edition.Edition as named
use Rattle.card.specs.Parts.{edition_number}
use Rattle.card.proofs.Checking.{passed_first}
use Rattle.card.proofs.Editions.{header_bytes_lem}
use Rattle.card.proofs.Accepted.{at_most_200}
use Rattle.convert.specs.Convert.{converted, own_checks, conversion_check, convert_checks, Conversion, convert_of}
use Rattle.convert.proofs.Editions.{row, size_is}
use Rattle.convert.proofs.Numbers.{card_is, taken_length}
use Rattle.convert.proofs.Answers.{own_passed}

module _ (e : named.Edition) (t : named.Edition) (f : edition_number e ≤ 2) (g : edition_number t ≤ 2) (card : List ℕ) where
  abbrev from : ℕ
  from = edition_number e

  abbrev to : ℕ
  to = edition_number t

  new_size : bits_at card 0 8 ≡ from → check_of card ≡ 0 → length (converted to card) ≤ 43416
  new_size is z =
      let a = row e f in
      let b = row t g in
      let few = at_most_200 card z in
      rw (b.listed, card_is a card is, taken_length a card is z b) (omega (arith, (rw (card_is a card is) at few), size_is t g, header_bytes_lem t))

  module _ (out : List ℕ) where
    small : (b : Bool) → eqb (first_of (convert_checks from to card out)) 0 ≡ b → (convert_of from to card out).size ≤ 43416
    unfolding convert_of
    small true is =
        let own = own_passed from card (passed_first (own_checks from card) (conversion_check to card out ∷ []) tt (eqb-true _ 0 is)) in rw is (new_size own.0 own.1)
    small false is = rw is (omega arith)

    -- a card of the largest edition with all its bodies and joints
    pub size_small : {a : Conversion} → a ≡ convert_of from to card out → a.size ≤ 43416
    size_small is = rw is (small (eqb (first_of (convert_checks from to card out)) 0) refl)
