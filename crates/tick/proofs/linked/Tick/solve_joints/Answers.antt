use native.Mathlib.Omega.{arith}
use mathlib.Core.Path.{◌≡◌, sym, ap, ◌∙◌}
use lib.ListN.{length}
use Rattle.numbers.proofs.Loops.{after_turn}
use Rattle.loader.specs.Parts.{linkage_in}
use Rattle.tick.specs.Tick.{solve_next, solve_pass}
use Rattle.tick.proofs.Lengths.{pre_solve_length}
use Rattle.tick.proofs.Turns.{both_put}
use Rattle.tick.proofs.Solving.{solve_more, solve_stop, solve_last}
use Rattle.tick.proofs.Ends.{solve_start}
use Rattle.tick.proofs.linked.Tick.solve_joints.Goals.{Start}
use Rattle.tick.proofs.linked.Tick.solve_joints.Goals as goal

many : (c : Start) → length c.args.bodies.now ≡ length c.args.self.now.linkage.bodies.now
many c = ap length c.requires.0 ∙ pre_solve_length (linkage_in c.args.self.now.linkage) c.args.self.now.state.now

pub loop-j-init : goal.loop-j-init
loop-j-init c =
    let a = c.args in
    solve_start (linkage_in a.self.now.linkage) a.self.now.state.now (length a.new.now) c.requires.0 (c.fill.ensures.after (λ y h. h)) (c.requires.1 ∙ a.self.now.sized)

pub invariant_of-joint-clause-whole : goal.invariant_of-joint-clause-whole
invariant_of-joint-clause-whole c = omega (arith, many (goal.at.invariant_of-joint-clause-whole c).Start)

pub put-requires : goal.put-requires
put-requires c = rw c.first-first.ensures.0 (omega (arith, many (goal.at.put-requires c).Start))

pub returns-then-not-solved-clause-stopped : goal.returns-then-not-solved-clause-stopped
unfolding solve_pass
returns-then-not-solved-clause-stopped c =
    let l = c.loop-j in
    let K = linkage_in c.args.self.now.linkage in
    let s = c.args.self.now.state.now in
    let e = c.solved-solved.ensures in
    solve_last K s _ l.invariant (solve_stop K s l.j l.bodies l.new (sym c.skipped.ensures ∙ c.if-skipped.false) e c.if-not-solved.true) (omega arith)

pub loop-j-preserved-then-skipped : goal.loop-j-preserved-then-skipped
unfolding solve_pass solve_next
loop-j-preserved-then-skipped c = after_turn _ _ c.loop-j.invariant (rw (sym c.skipped.ensures ∙ c.if-skipped.true))

pub loop-j-preserved : goal.loop-j-preserved
unfolding solve_pass
loop-j-preserved c =
    let l = c.loop-j in
    let K = linkage_in c.args.self.now.linkage in
    let s = c.args.self.now.state.now in
    let e = c.solved-solved.ensures in
    let put = both_put c.args.self.now l.j (c.first-first.ensures, c.second-second.ensures) c.solved-solved.result.bodies l.bodies c.put.ensures c.put-in-loop-j.ensures in
    after_turn _ _ l.invariant
    (solve_more K s l.j l.bodies l.new (sym c.skipped.ensures ∙ c.if-skipped.false) e c.if-not-solved.false put (rw c.state_length-at.ensures at c.write.ensures) (omega arith) (omega (arith, c.requires.1, c.fill.auto, c.args.self.now.sized)))
