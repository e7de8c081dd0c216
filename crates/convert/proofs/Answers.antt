-- What a conversion answers by its checks.
use Rattle.std.specs.Prelude.{if◌then◌else◌}
use Prim.Native.Nat.{ℕ, ◌≤◌}
use mathlib.Core.Path.{◌≡◌, refl, sym, ap, ◌∙◌}
use mathlib.Core.Bool.{Bool, true, false, not}
use mathlib.Core.List.{List, [], ◌∷◌, ◌++◌}
use lib.ListN.{length, drop}
use lib.Dec.{ltb, eqb}
use borrow.Author.Tests.{eqb-true, not-false, le-ltb, eq-eqb, ne_eqb}
use Rattle.card.specs.Format.{bits_at}
use Rattle.card.specs.Card.{edition_at, card_of}
use Rattle.card.specs.Checks.{Refusal, refuse, first_of, card_checks, check_of}
use Rattle.card.proofs.Checking.{passed, passed_behind, passed_on, passed_first, refused_first}
use Rattle.convert.specs.Convert.{converted, own_checks, conversion_check, convert_checks, Conversion, conversion, unless_refused, convert_of}

-- ---- the card's own

two_passed : {a b : Bool} (checks : List Refusal) → a ≡ false → b ≡ false → first_of (refuse 1 a ∷ refuse 2 b ∷ checks) ≡ first_of checks
two_passed checks e f = rw (e, f)

module _ (from : ℕ) (card : List ℕ) where
  module _ (long : 12 ≤ length card) where
    passes_1 : ltb (length card) 12 ≡ false
    passes_1 = le-ltb (length card) 12 long

    pub own_answer : {k : ℕ} → bits_at card 0 8 ≡ from → k ≡ check_of card → k ≡ first_of (own_checks from card)
    unfolding check_of
    own_answer is e =
        let same : not (eqb (bits_at card 0 8) from) ≡ false = rw (eq-eqb (bits_at card 0 8) from is) in
        e ∙ sym (two_passed (card_checks (edition_at card) card (card_of card)) passes_1 same)

  pub own_passed : first_of (own_checks from card) ≡ 0 → (bits_at card 0 8 ≡ from) × (check_of card ≡ 0)
  unfolding check_of
  own_passed e =
      let n = bits_at card 0 8 in
      (eqb-true n from (not-false (eqb n from) (passed (own_checks from card) tt e 2)), passed_behind (own_checks from card) tt e 2)

-- ---- the answer

module _ (from to : ℕ) (card out : List ℕ) where
  abbrev new : List ℕ
  new = converted to card

  abbrev outcome : ℕ → Conversion
  outcome n = if eqb n 0 then conversion 0 (length new) (new ++ drop (length new) out) else conversion n 0 out

  pub done : first_of (convert_checks from to card out) ≡ 0 → conversion 0 (length new) (new ++ drop (length new) out) ≡ convert_of from to card out
  unfolding convert_of
  done e = sym (ap outcome e)

  -- where the card's own checks are passed 16 decides
  pub by_16 : first_of (own_checks from card) ≡ 0 → unless_refused (conversion_check to card out ∷ []) new out ≡ convert_of from to card out
  unfolding convert_of
  by_16 e = ap outcome (sym (passed_on (own_checks from card) (conversion_check to card out ∷ []) tt e))

  pub own_refused : {n : ℕ} → n ≡ first_of (own_checks from card) → (n ≡ 0 → ⊥) → conversion n 0 out ≡ convert_of from to card out
  unfolding convert_of
  own_refused {n} e x =
      let kept : conversion n 0 out ≡ outcome n = rw (ne_eqb n 0 x) in
      kept ∙ ap outcome (e ∙ sym (refused_first (own_checks from card) (conversion_check to card out ∷ []) tt (λ z. x (e ∙ z))))

  number_of : (n : ℕ) (b : Bool) → eqb n 0 ≡ b → (outcome n).number ≡ 0 → n ≡ 0
  number_of n true t e = eqb-true n 0 t
  number_of n false t e = rw t at e

  -- an answer of 0 says that no check applies
  pub none_applies : (convert_of from to card out).number ≡ 0 → first_of (convert_checks from to card out) ≡ 0
  unfolding convert_of
  none_applies e = let n = first_of (convert_checks from to card out) in number_of n (eqb n 0) refl e

  pub card_passed : (convert_of from to card out).number ≡ 0 → (bits_at card 0 8 ≡ from) × (check_of card ≡ 0)
  card_passed e = own_passed from card (passed_first (own_checks from card) (conversion_check to card out ∷ []) tt (none_applies e))
