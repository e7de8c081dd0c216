use Rattle.std.proofs.Common.{arith, ◌∙◌}
use Rattle.scalar.proofs.Remainders.{lower, aligned_as, leading_part}
use Rattle.scalar.proofs.remainder.Magnitude.reduced.Goals as goal

pub returns-then-e-f : goal.returns-then-e-f
returns-then-e-f c =
    let ea = c.exponent-e.ensures in
    let eb = c.exponent-f.ensures in
    lower c.args.self.bits c.args.b.bits c.args.self.finite (omega (arith, ea.0, ea.1)) (omega (arith, ea.0, eb.0, c.if-e-f.true))

pub returns : goal.returns
returns c =
    c.packed.ensures
    ∙ aligned_as c.significand.ensures.0 c.significand-2.ensures.0 c.exponent-e.ensures.0 c.exponent-f.ensures.0 (leading_part c.args.b.bits c.requires c.args.b.finite) c.exponent-f.ensures.1
    c.if-e-f.false c.moved_up-m.ensures.0
