-- No number, infinite or zero, or two numbers in units of 2^-149.
use mathlib.Core.Bool.{Bool, true}
use mathlib.Core.Path.{◌≡◌, sym, subst, ◌∙◌}
use lib.Dec.{T}
use lib.Ieee.Compare.{differs_from_itself}
use Rattle.std.proofs.Common.{arith}
use Rattle.laws.proofs.Order.{no_nan}
use Rattle.laws.proofs.Quotient.{zero_over_zero}
use Rattle.root.proofs.Cases.{finite_is_no_nan}
use Rattle.scalar.proofs.Remainders.{above_zero, below_zero, no_number, by_no_number, by_infinity, by_zero}
use Rattle.scalar.proofs.remainder.remainder.Goals as goal

-- what owning an `f32` tells: the format holds it
held : {b : Bool} → b ≡ true → T b
held e = subst T (sym e) tt

pub returns-then-not-is_finite : goal.returns-then-not-is_finite
returns-then-not-is_finite c = zero_over_zero ∙ no_number c.args.x c.args.y (sym c.is_finite.ensures ∙ c.if-not-is_finite.true)

pub returns-then-y : goal.returns-then-y
returns-then-y c = by_no_number c.args.x c.args.y (sym c.is_finite.ensures ∙ c.if-not-is_finite.false) (differs_from_itself c.args.y (held c.if-y.true))

pub returns-then-not-is_finite-2 : goal.returns-then-not-is_finite-2
returns-then-not-is_finite-2 c = by_infinity c.args.x c.args.y (sym c.is_finite.ensures ∙ c.if-not-is_finite.false) (no_nan c.args.y c.if-y.false) (sym c.is_finite-2.ensures ∙ c.if-not-is_finite-2.true)

pub returns-then-b-eq0 : goal.returns-then-b-eq0
returns-then-b-eq0 c = zero_over_zero ∙ by_zero c.args.x c.args.y c.of-b.result.bits c.of-b.ensures (held c.well_formed.1.0.1) c.if-b-eq0.true

pub float_from_bits-v : goal.float_from_bits-v
float_from_bits-v c = finite_is_no_nan c.reduced-v.result.bits c.reduced-v.result.finite

pub returns-then-is_sign_negative : goal.returns-then-is_sign_negative
returns-then-is_sign_negative c =
    below_zero c.args.x c.args.y c.of.result.bits c.of-b.result.bits c.reduced-v.result.bits c.of.ensures c.of-b.ensures (held c.well_formed.0.1) (held c.well_formed.1.0.1) c.reduced-v.result.finite c.of.result.finite
    c.of-b.result.finite (omega (arith, c.if-b-eq0.false)) c.reduced-v.ensures (sym c.is_sign_negative.ensures ∙ c.if-is_sign_negative.true)

pub returns-else-is_sign_negative : goal.returns-else-is_sign_negative
returns-else-is_sign_negative c =
    above_zero c.args.x c.args.y c.of.result.bits c.of-b.result.bits c.reduced-v.result.bits c.of.ensures c.of-b.ensures (held c.well_formed.0.1) (held c.well_formed.1.0.1) c.reduced-v.result.finite c.of.result.finite
    c.of-b.result.finite (omega (arith, c.if-b-eq0.false)) c.reduced-v.ensures (sym c.is_sign_negative.ensures ∙ c.if-is_sign_negative.false)
