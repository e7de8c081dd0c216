-- A refusal has a number.
use native.Mathlib.Omega.{arith}
use mathlib.Core.Path.{◌≡◌}
use Rattle.card.specs.declared.refusal.Refusal.{Refusal}
use Rattle.card.specs.declared.refusal.Refusal.TheVariants.{ShortCard, WrongEdition, WrongCounts, WrongRate, WrongLength, UnusedBits, FloatOutOfRange, LimitOrder, NotUnit, WrongBodies, StateLength, StateNumber, Stopped, Conversion, Dominance, AngleLimit, JointMark}
use Rattle.card.specs.Answer.{refusal_number}

pub numbered : (r : Refusal) → refusal_number r ≡ 0 → ⊥
numbered ShortCard e = omega arith
numbered WrongEdition e = omega arith
numbered WrongCounts e = omega arith
numbered WrongRate e = omega arith
numbered WrongLength e = omega arith
numbered UnusedBits e = omega arith
numbered FloatOutOfRange e = omega arith
numbered LimitOrder e = omega arith
numbered NotUnit e = omega arith
numbered WrongBodies e = omega arith
numbered StateLength e = omega arith
numbered StateNumber e = omega arith
numbered Stopped e = omega arith
numbered Conversion e = omega arith
numbered Dominance e = omega arith
numbered AngleLimit e = omega arith
numbered JointMark e = omega arith
