use Rattle.std.proofs.Common.{◌+◌, ◌*◌, ◌≤◌}
use Rattle.arrayvec.specs.ArrayVec.{array_vec_len, Extends}
use Rattle.linkage.specs.Lines.{lines_of}
use Rattle.linkage.proofs.fill.Table.put_lines.Given as goal

abbrev pub invariant-loop-i : goal.invariant-loop-i
invariant-loop-i l = Extends l.initial.out (lines_of l.tick l.i l.self.state.now) l.out × (array_vec_len l.out ≤ array_vec_len l.initial.out + 73 * l.i)
