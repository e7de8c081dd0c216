-- Quadrant by quadrant.
use Rattle.std.proofs.Common.{sym, ◌∙◌, arith}
use Rattle.trig.proofs.CarriedTable.{turn_0, turn_1, turn_2, turn_3}
use Rattle.trig.proofs.table_sin_cos.Goals as goal

pub returns-in-0 : goal.returns-in-0
returns-in-0 c = let p = turn_0 _ _ _ _ c.quarter-w.ensures (omega arith) in (c.over_unit.ensures ∙ sym p.0, c.over_unit-in-0.ensures ∙ sym p.1)

pub returns-in-1 : goal.returns-in-1
returns-in-1 c = let p = turn_1 _ _ _ _ c.quarter-w.ensures (omega arith) in (c.over_unit-in-1.ensures ∙ sym p.0, c.over_unit-in-1-2.ensures ∙ sym p.1)

pub returns-in-2 : goal.returns-in-2
returns-in-2 c = let p = turn_2 _ _ _ _ c.quarter-w.ensures (omega arith) in (c.over_unit-in-2.ensures ∙ sym p.0, c.over_unit-in-2-2.ensures ∙ sym p.1)

pub returns-in_default : goal.returns-in_default
returns-in_default c = let p = turn_3 _ _ _ _ c.quarter-w.ensures (omega arith) in (c.over_unit-in_default.ensures ∙ sym p.0, c.over_unit-in_default-2.ensures ∙ sym p.1)
