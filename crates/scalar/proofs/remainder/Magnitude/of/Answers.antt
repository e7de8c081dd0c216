use mathlib.Core.Path.{sym, subst}
use lib.Dec.{T}
use Rattle.scalar.proofs.Remainders.{finite_size, size_no_nan}
use Rattle.scalar.proofs.remainder.Magnitude.of.Goals as goal

pub float_to_bits-result : goal.float_to_bits-result
float_to_bits-result c = size_no_nan c.args.x c.abs.result c.abs.ensures c.requires

pub invariant_of-result : goal.invariant_of-result
invariant_of-result c = record { finite = finite_size c.args.x c.abs.result c.abs.ensures (subst T (sym c.well_formed.0.1) tt) c.requires }
