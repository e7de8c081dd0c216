-- The examples hold: all is computed.
use mathlib.Core.Path.{refl}
use lib.Ieee.{of_bits, of_fields, neg, add, mul, sum, round, units, odd, size, span, climb, le, lt, eq}
use Rattle.scalar.specs.Scalar.{outside}
use Rattle.vector.specs.Vector.{dot_of, length_squared_of}
use Rattle.numbers.specs.Lists.{concat}
use Rattle.card.specs.Format.{bits_at, numbers_at, records_at, any_cell, out_of}
use Rattle.card.specs.Card.{kind_at, edition_of, card_of}
use Rattle.card.specs.Checks.{any, off_unit}
use Rattle.convert.specs.Convert.{packed, bytes_of, card_bytes, convert_of}
use Rattle.convert.specs.Examples.{Examples}

pub examples : Examples
unfolding of_bits of_fields neg add mul sum round units odd size span climb le lt eq dot_of length_squared_of concat bits_at numbers_at records_at any_cell out_of outside kind_at edition_of card_of any off_unit packed bytes_of card_bytes convert_of
examples = record { over = refl; back = refl; short = refl; fast = refl; already = refl; third = refl; slow = refl }
