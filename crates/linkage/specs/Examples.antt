-- Document 01, 'Examples': the line of its card's pose, the digits that no sample has, and a refusal of two digits.
use Rattle.std.specs.Prelude.{◌≡◌, [], ◌∷◌, codes}
use Rattle.std.specs.Float.{nan}
use Rattle.scalar.specs.Arith.{f0, f1}
use Rattle.linkage.specs.Lines.{hex_of, line_of, refusal_of}

pub record Examples : Type 0 where
  pub line : line_of 1 0 (f1 ∷ f0 ∷ f0 ∷ f0 ∷ f0 ∷ f0 ∷ f1 ∷ []) ≡ codes "1 0 3f800000 00000000 00000000 00000000 00000000 00000000 3f800000\n"
  pub last : line_of 65535 31 [] ≡ codes "65535 31\n"
  pub quiet : hex_of nan ≡ codes " 7fc00000"
  pub refusal : refusal_of 13 ≡ codes "refused 13\n"
