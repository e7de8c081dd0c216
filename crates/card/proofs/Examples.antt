-- The checks of document 01's example card: all is computed.
use mathlib.Core.Path.{refl}
use lib.Ieee.{of_bits, of_fields, neg, add, mul, sum, round, units, odd, size, span, climb, le, lt, eq}
use Rattle.scalar.specs.Scalar.{outside}
use Rattle.vector.specs.Vector.{dot_of, length_squared_of}
use Rattle.card.specs.Format.{bits_at, numbers_at, records_at, any_cell, out_of}
use Rattle.card.specs.Card.{kind_at, edition_of, card_of}
use Rattle.card.specs.Checks.{any, off_unit, check_of}
use Rattle.card.specs.Examples.{Examples}

pub examples : Examples
unfolding of_bits of_fields neg add mul sum round units odd size span climb le lt eq dot_of length_squared_of bits_at numbers_at records_at any_cell out_of outside kind_at edition_of card_of any off_unit check_of
examples =
    record {
      size = refl;
      short = refl;
      slow = refl;
      accepted = refl;
      size_2 = refl;
      fastest_2 = refl;
      faster_2 = refl;
      crowded_2 = refl;
      slow_2 = refl;
      short_2 = refl;
      shorter_2 = refl;
      size_3 = refl;
      zero_3 = refl;
      largest_3 = refl;
      infinite_3 = refl;
      negative_3 = refl;
      edition_4 = refl;
    }
