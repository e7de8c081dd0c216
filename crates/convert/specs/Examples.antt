-- Document 02, point 4, by document 01's example card: 106 bytes in edition 1, 110 in edition 2.
use Rattle.std.specs.Prelude.{◌≡◌, [], ◌++◌, replicate}
use Rattle.card.specs.Examples.{example_card, example_card2, example_card3}
use Rattle.convert.specs.Convert.{conversion, convert_of}

pub record Examples : Type 0 where
  -- over and back, with two bytes past the result kept
  pub over : convert_of 1 2 (example_card 16) (replicate 112 7) ≡ conversion 0 110 (example_card2 1 16 ++ replicate 2 7)
  pub back : convert_of 2 1 (example_card2 1 16) (replicate 108 7) ≡ conversion 0 106 (example_card 16 ++ replicate 2 7)
  -- a slice that is a byte too short, and a rate of 1,001 on the way back
  pub short : convert_of 1 2 (example_card 16) (replicate 109 7) ≡ conversion 16 0 (replicate 109 7)
  pub fast : convert_of 2 1 (example_card2 1 1001) (replicate 106 7) ≡ conversion 16 0 (replicate 106 7)
  -- a card already of the wanted edition, one of edition 3, and one that is refused by itself
  pub already : convert_of 1 2 (example_card2 1 16) [] ≡ conversion 2 0 []
  pub third : convert_of 2 1 (example_card3 (replicate 4 0)) [] ≡ conversion 2 0 []
  pub slow : convert_of 1 2 (example_card 15) [] ≡ conversion 4 0 []
