-- The examples hold: all is computed.
use mathlib.Core.Path.{refl}
use lib.Ieee.{of_bits, of_fields, odd, is_nan, to_bits, size, span, climb}
use Rattle.std.specs.Fmt.{digits}
use Rattle.hex.specs.Hex.{encode_with}
use Rattle.scalar.specs.Scalar.{bits_of}
use Rattle.numbers.specs.Lists.{concat}
use Rattle.linkage.specs.Lines.{line_of, refusal_of}
use Rattle.linkage.specs.Examples.{Examples}

pub examples : Examples
unfolding of_bits of_fields odd is_nan to_bits size span climb concat digits encode_with bits_of line_of refusal_of
examples = record { line = refl; last = refl; quiet = refl; refusal = refl }
