use Rattle.std.proofs.Common.{ℕ, ◌%◌, ◌<◌, lt→ltb}
use mathlib.Core.Path.{◌≡◌, refl, sym, ◌∙◌, subst}
use mathlib.Core.Bool.{Bool, not}
use lib.Arith.{le→nltb}
use lib.Dec.{T}
use lib.Ieee.{Float, nan, inf, fin, binary32, is_nan, of_bits}
use lib.Ieee.Bits.{nan_bits_above, nan_bits_is}
use Rattle.laws.proofs.Quotient.{zero_over_zero}
use Rattle.scalar.proofs.from_bits.Goals as goal

nan_is : (x : Float) → T (is_nan x) → nan ≡ x
unfolding is_nan
nan_is nan h = refl
nan_is (inf s) h = absurd h
nan_is (fin s m e) h = absurd h

nan_of : (w : ℕ) → 2139095040 < w % 2147483648 → nan ≡ of_bits binary32 w
nan_of w h = nan_is (of_bits binary32 w) (subst T (sym (nan_bits_above binary32 w) ∙ nan_bits_is binary32 w) (lt→ltb 2139095040 (w % 2147483648) h))

pub returns-then-w-gt2139095040 : goal.returns-then-w-gt2139095040
returns-then-w-gt2139095040 c = zero_over_zero ∙ nan_of c.args.w c.if-w-gt2139095040.true

pub float_from_bits-result : goal.float_from_bits-result
float_from_bits-result c = subst (λ (b : Bool). T (not b)) (sym (nan_bits_above binary32 c.args.w)) (le→nltb 2139095040 (c.args.w % 2147483648) c.if-w-gt2139095040.false)
