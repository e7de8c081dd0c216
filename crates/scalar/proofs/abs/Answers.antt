-- Below zero, equal to zero, or neither.
use mathlib.Core.Path.{sym, subst}
use lib.Dec.{T}
use Rattle.scalar.proofs.Signs.{abs_below, abs-zero, abs_above}
use Rattle.scalar.proofs.abs.Goals as goal

pub returns-then-x : goal.returns-then-x
returns-then-x c = abs_below c.args.x c.if-x.true

pub returns-then-x-2 : goal.returns-then-x-2
returns-then-x-2 c = abs-zero c.args.x (subst T (sym c.well_formed.0.1) tt) c.if-x-2.true

pub returns : goal.returns
returns c = abs_above c.args.x c.if-x.false c.if-x-2.false
