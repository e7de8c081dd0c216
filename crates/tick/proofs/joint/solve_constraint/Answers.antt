use Rattle.tick.specs.Parts.{prepared_with}
use Rattle.tick.proofs.joint.solve_constraint.Goals as goal

pub returns : goal.returns
unfolding prepared_with
returns g c =
    let a = c.args in
    let p = c.prepare-prepared.ensures in
    rw (
      c.finite-finite.ensures,
      p.numbers,
      c.totals.ensures,
      c.solve-solved.ensures,
      p.gives,
      g.met.C.XpbdConstraint.runs a.joint a.body1 a.body2 a.bodies a.inertia1 a.inertia2 a.dt,
    )
