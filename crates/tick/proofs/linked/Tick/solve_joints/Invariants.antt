-- The first of the joints are solved.
use mathlib.Core.Path.{◌≡◌}
use Rattle.loader.specs.Parts.{linkage_in}
use Rattle.tick.specs.Tick.{solved_to}
use Rattle.tick.specs.Work.{solved_in}
use Rattle.tick.proofs.linked.Tick.solve_joints.Given as goal

abbrev pub invariant-loop-j : goal.invariant-loop-j
invariant-loop-j l =
    let K = linkage_in l.self.linkage in
    solved_in K l.bodies l.new ≡ solved_to K l.self.state.now l.j
