use Rattle.std.proofs.Common.{arith, sym}
use Rattle.card.proofs.CheckRows.{checks_are}
use Rattle.card.proofs.checks.check_records.Goals as goal

pub returns-then-any_pair_fault : goal.returns-then-any_pair_fault
returns-then-any_pair_fault c = let pairs = rw c.sizes-at.ensures at c.any_pair_fault.ensures in grind (arith, checks_are)

pub returns : goal.returns
returns c =
    let a = c.args in
    let bodies = rw c.sizes-at.ensures at c.bodies_faults-b.ensures in
    let joints = rw c.sizes-at.ensures at c.joints_faults-j.ensures in
    let pairs = rw c.sizes-at.ensures at c.any_pair_fault.ensures in
    let found = rw (← c.header_faults-h.ensures, ← bodies, ← joints, ← pairs) at (checks_are a.edition a.card.now a.bodies a.joints) in
    sym (rw (c.if-h-b.false, c.if-b.false, c.if-h-b-2.false, c.if-j.false, c.if-j-2.false, c.if-b-j.false, c.if-any_pair_fault.false) at found)
