-- What a call that is not refused says of its checks.
use Prim.Native.Nat.{ℕ, zero, suc}
use mathlib.Core.Path.{◌≡◌, refl}
use mathlib.Core.Bool.{true, false}
use mathlib.Core.List.{List, [], ◌∷◌, ◌++◌}
use lib.ListN.{length, take}
use lib.Ieee.{Float}
use Rattle.card.specs.Card.{edition_at, card_of}
use Rattle.card.specs.Checks.{Refusal, refuse, first_of, card_checks, check_of}
use Rattle.card.proofs.Checking.{passed}
use Rattle.loader.specs.Linkage.{linkage_of}
use Rattle.state.specs.State.{start_checks, state_checks, start_of}
use Rattle.tick.specs.Tick.{turned_linkage, stopped}
use Rattle.tick.specs.Run.{tick_of}

-- the card's come first
none_of : (n : ℕ) (checks : List Refusal) → first_of checks ≡ 0 → first_of (take n checks) ≡ 0
none_of zero checks e = refl
none_of (suc n) [] e = refl
none_of (suc n) (refuse k true ∷ checks) e = e
none_of (suc n) (refuse k false ∷ checks) e = none_of n checks e

module _ (card : List ℕ) (s : List Float) where
  abbrev many : ℕ
  many = length (card_checks (edition_at card) card (card_of card))

  pub start_passed : (start_of card s).number ≡ 0 → check_of card ≡ 0
  unfolding start_of check_of
  start_passed e = none_of many (start_checks card s) e

  pub tick_passed : (tick_of card s).number ≡ 0 → (check_of card ≡ 0) × (stopped (turned_linkage (linkage_of (card_of card)) s) s ≡ false)
  unfolding tick_of check_of
  tick_passed e =
      let checks = state_checks card s ++ (refuse 13 (stopped (turned_linkage (linkage_of (card_of card)) s) s) ∷ []) in
      (none_of many checks e, passed checks tt e 13)
