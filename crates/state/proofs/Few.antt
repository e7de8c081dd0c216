-- A card's counts are small, whatever its bytes, and its state holds its bodies.
use Rattle.std.specs.Prelude.{if◌then◌else◌}
use Prim.Native.Nat.{ℕ, ◌*◌, ◌≤◌}
use native.Mathlib.Omega.{arith}
use mathlib.Core.Path.{◌≡◌, refl}
use mathlib.Core.Bool.{Bool, true, false}
use mathlib.Core.List.{List}
use lib.ListN.{length}
use lib.Dec.{eqb}
use borrow.Author.Tests.{eqb-true}
use Rattle.card.specs.Card.{card_of}
use Rattle.card.specs.Checks.{check_of}
use Rattle.card.proofs.Accepted.{accepted, at_most_200}
use Rattle.state.specs.State.{body_numbers, Sizes, sized, sizes_of}

abbrev pub Few : Sizes → Type 0
Few s = (s.bodies ≤ 255) × (s.joints ≤ 255) × (s.state ≤ 6630) × (body_numbers * s.bodies ≤ s.state)

either : (b : Bool) (n bodies joints : ℕ) → (b ≡ true → (bodies ≤ 255) × (joints ≤ 255)) → Few (if b then sized 0 bodies joints else sized n 0 0)
either true n bodies joints f = let h = f refl in (h.0, h.1, omega (arith, h.0, h.1), omega arith)
either false n bodies joints f = (omega arith, omega arith, omega arith, omega arith)

accepted_few : (card : List ℕ) → check_of card ≡ 0 → (length (card_of card).bodies ≤ 255) × (length (card_of card).joints ≤ 255)
accepted_few card z =
    let a = (accepted card z).has in
    let most = at_most_200 card z in
    (rw a.bodies (omega (arith, most.0)), rw a.joints (omega (arith, most.1)))

pub few : {s : Sizes} (card : List ℕ) → s ≡ sizes_of card → Few s
unfolding sizes_of
few card e = rw e (either (eqb (check_of card) 0) _ _ _ (λ t. accepted_few card (eqb-true _ _ t)))
