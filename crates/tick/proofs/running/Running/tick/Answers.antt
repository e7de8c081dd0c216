use mathlib.Core.Path.{◌≡◌, sym, ap, ◌∙◌}
use Rattle.std.proofs.lemmas.Result.{err_from_is_err_and}
use Rattle.loader.specs.Parts.{linkage_in}
use Rattle.tick.specs.Tick.{Solved, turned_linkage, stopped}
use Rattle.tick.proofs.Ends.{stops, ends}
use Rattle.tick.proofs.Turning.{turned_as}
use Rattle.tick.proofs.running.Running.tick.Goals.{After-bad_numbers}
use Rattle.tick.proofs.running.Running.tick.Goals as goal

stopped_is : (c : After-bad_numbers) → let r = c.args.self.now in stopped (turned_linkage (linkage_in r.own) r.state.now) r.state.now ≡ c.bad_numbers.result
stopped_is c =
    let r = c.args.self.now in
    let finite = sym (ap (λ (σ : Solved). σ.finite) c.in_ok-solve_joints.ensures.solved) in
    rw (turned_as (linkage_in r.own) r.state.now c.turn_bodies.ensures) at (ends _ _ finite c.finish_bodies.ensures c.bad_numbers.ensures)

pub returns-in_err-solve_joints-clause-stopped : goal.returns-in_err-solve_joints-clause-stopped
returns-in_err-solve_joints-clause-stopped c =
    let r = c.args.self.now in
    let p = err_from_is_err_and c.from_residual.result c.from_residual.ensures.1 in
    rw p.1 (rw (turned_as (linkage_in r.own) r.state.now c.turn_bodies.ensures) at (stops _ _ c.in_err-solve_joints.ensures.stopped))

pub returns-then-bad_numbers-clause-stopped : goal.returns-then-bad_numbers-clause-stopped
returns-then-bad_numbers-clause-stopped c = stopped_is (goal.at.returns-then-bad_numbers-clause-stopped c).After-bad_numbers ∙ c.if-bad_numbers.true

pub returns-clause-done : goal.returns-clause-done
returns-clause-done c =
    let r = c.args.self.now in
    let new = rw (turned_as (linkage_in r.own) r.state.now c.turn_bodies.ensures) at c.finish_bodies.ensures in
    (stopped_is (goal.at.returns-clause-done c).After-bad_numbers ∙ c.if-bad_numbers.false, c.copy_from_slice-2.ensures.after ∙ new)
