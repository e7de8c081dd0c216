use Rattle.std.proofs.Common.{◌≡◌, ◌*◌, ◌-◌, ◌≤◌, ◌++◌}
use Rattle.arrayvec.specs.ArrayVec.{array_vec_len}
use Rattle.linkage.specs.Lines.{output_of}
use Rattle.linkage.proofs.fill.Table.fill.Given as goal

abbrev pub invariant-loop-done : goal.invariant-loop-done
invariant-loop-done l =
    let s = l.initial.self in
    (array_vec_len l.out ≤ 18615 * (l.done - l.from)) × (array_vec_len l.out ≤ 58615) × (l.self.card ≡ s.card) × (l.self.bodies ≡ s.bodies)
    × (output_of s.card.now s.bodies l.from (l.ticks - l.from) s.state.now ≡ l.out.items ++ output_of l.self.card.now l.self.bodies l.done (l.ticks - l.done) l.self.state.now)
