use Rattle.numbers.specs.Numbers.{numbers6}
use Rattle.state.specs.State.{totals_numbers}
use Rattle.tick.specs.Joint.{prepared_numbers, solver_numbers}
use Rattle.tick.specs.Parts.{run_with, joint_solved, prepared_with, tested_of}
use Rattle.tick.proofs.All.{six}
use Rattle.tick.proofs.joint.solve_joint.Goals as goal

pub returns : goal.returns
unfolding tested_of prepared_with joint_solved
returns c =
    let a = c.before.args in
    let r = run_with a.joint a.body1 a.body2 a.bodies a.inertia1 a.inertia2 a.dt in
    let parts =
    six (prepared_numbers a.joint a.body1 a.body2) (totals_numbers r.totals) (solver_numbers r.bodies.body1) (solver_numbers r.bodies.body2)
    (numbers6 a.inertia1.inv_angular_inertia) (numbers6 a.inertia2.inv_angular_inertia) in
    rw (c.tested.ensures, c.before.solve_by_kind-solved.ensures, parts)
