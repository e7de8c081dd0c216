-- Two accepted cards that differ in their edition alone have one linkage, and so the same ticks.
use Prim.Native.Nat.{ℕ}
use native.Mathlib.Omega.{arith}
use mathlib.Core.Path.{◌≡◌, ap, ◌∙◌}
use mathlib.Core.List.{List}
use lib.Seq.{get_or-set_other}
use Rattle.card.specs.Card.{Card, card_of}
use Rattle.card.specs.Checks.{check_of}
use Rattle.convert.specs.Convert.{with_edition}
use Rattle.convert.specs.Converts.{result, ConvertsTo}
use Rattle.convert.proofs.Answers.{card_passed}
use Rattle.convert.proofs.Converts.{both_ways}
use Rattle.loader.specs.Linkage.{linkage_of}
use Rattle.demand.proofs.Same.{same_tick, same_run}
use Rattle.promises.specs.Conversion.{AsBefore, MovesAsBefore, Conversions}

-- the edition is no part of the linkage
same_linkage : (n : ℕ) (c : Card) → linkage_of (with_edition n c) ≡ linkage_of c
unfolding linkage_of
same_linkage n c =
    let h = c.header in
    rw (get_or-set_other h 0 3 n 0 (λ e. omega arith), get_or-set_other h 0 5 n 0 (λ e. omega arith), get_or-set_other h 0 6 n 0 (λ e. omega arith))

module _ (card new : List ℕ) (n : ℕ) (is : card_of new ≡ with_edition n (card_of card)) (z : check_of card ≡ 0) (y : check_of new ≡ 0) where
  linkage : linkage_of (card_of new) ≡ linkage_of (card_of card)
  linkage = ap linkage_of is ∙ same_linkage n (card_of card)

  pub as_before : AsBefore card new
  as_before = record { linkage = linkage; tick = same_tick new card y z linkage; run = same_run new card y z linkage }

moves : {from to : ℕ} → ConvertsTo from to → MovesAsBefore from to
moves {from} {to} converts card out small e =
    let k = converts card out small e in as_before card (result from to card out) to k.numbers (card_passed from to card out e).1 k.accepted

pub conversions : Conversions
conversions = record { kept = both_ways; over = moves both_ways.over; back = moves both_ways.back }
