-- Document 01, 'Examples': one tick of the card with one body, x velocity 16; and document 02's joints at their breaking loads and next to them.
use Rattle.std.specs.Prelude.{ℕ, ◌≡◌, Bool, true, false, [], ◌∷◌, take}
use Rattle.scalar.specs.Arith.{f32, f0, f1}
use Rattle.card.specs.Card.{card_of}
use Rattle.card.specs.Examples.{example_card}
use Rattle.state.specs.State.{start_state}
use Rattle.tick.specs.Joint.{overloaded}
use Rattle.tick.specs.Run.{Ran, run_of}

abbrev ran : Ran
ran = run_of (example_card 16) (start_state (card_of (example_card 16))) 1

-- at rate 64, first total (3, 4, 0) / 4096, which over dt² is 5; the load by its bits
abbrev breaks_64 : ℕ → Bool
breaks_64 load = overloaded (f32 load) (record { x = f32 0x3a400000; y = f32 0x3a800000; z = f0 }) (f32 0x3c800000)

-- at rate 240, first total (3b400000, 0, 0), which over dt² is 4328bfff; by the rate's square it would be 4328c000, by two divisions 4328bffe
abbrev breaks_240 : ℕ → Bool
breaks_240 load = overloaded (f32 load) (record { x = f32 0x3b400000; y = f0; z = f0 }) (f32 0x3b888889)

-- position 3f800000 00000000 00000000, rotation 00000000 00000000 00000000 3f800000
pub record Examples : Type 0 where
  pub done : ran.number ≡ 0
  pub ticks : ran.ticks ≡ 1
  pub pose : take 7 ran.state ≡ f1 ∷ f0 ∷ f0 ∷ f0 ∷ f0 ∷ f0 ∷ f1 ∷ []
  pub under : breaks_64 0x409fffff ≡ true
  pub equal : breaks_64 0x40a00000 ≡ false
  pub over : breaks_64 0x40a00001 ≡ false
  pub none : breaks_64 0 ≡ false
  pub minus_none : breaks_64 0x80000000 ≡ false
  pub largest : breaks_64 0x7f7fffff ≡ false
  pub under_240 : breaks_240 0x4328bffe ≡ true
  pub equal_240 : breaks_240 0x4328bfff ≡ false
