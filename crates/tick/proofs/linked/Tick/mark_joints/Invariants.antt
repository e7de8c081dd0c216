-- The first of the joints are marked.
use Prim.Native.Nat.{◌*◌}
use mathlib.Core.Path.{refl}
use lib.ListN.{length}
use Rattle.loader.specs.Parts.{linkage_in}
use Rattle.state.specs.State.{body_numbers, joint_numbers, joint_numbers_of}
use Rattle.tick.specs.Tick.{new_joint}
use Rattle.tick.proofs.Written.{Written}
use Rattle.tick.proofs.linked.Tick.mark_joints.Given as goal

abbrev pub invariant-loop-j : goal.invariant-loop-j
invariant-loop-j l =
    let K = linkage_in l.self.linkage in
    Written joint_numbers_of joint_numbers (λ _. refl) (new_joint K l.self.state.now) (body_numbers * length K.bodies) l.initial.new l.j l.new
