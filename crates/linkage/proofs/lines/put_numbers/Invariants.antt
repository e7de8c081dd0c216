use Rattle.std.proofs.Common.{◌≡◌, ◌+◌, ◌*◌, map, take}
use Rattle.arrayvec.specs.ArrayVec.{array_vec_len, Extends}
use Rattle.numbers.specs.Lists.{concat}
use Rattle.linkage.specs.Lines.{hex_of}
use Rattle.linkage.proofs.lines.put_numbers.Given as goal

abbrev pub invariant-loop-x : goal.invariant-loop-x
invariant-loop-x l =
    Extends l.initial.out (concat (map hex_of (take l.x-index l.numbers))) l.out × (array_vec_len l.out ≡ array_vec_len l.initial.out + 9 * l.x-index)
