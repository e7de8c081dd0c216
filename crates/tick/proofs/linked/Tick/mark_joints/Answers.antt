use native.Mathlib.Omega.{arith}
use Prim.Native.Nat.{◌+◌, ◌*◌, ◌≤◌}
use mathlib.Core.Path.{refl, ap, ◌∙◌}
use lib.ListN.{length}
use lib.Seq.{sets}
use Rattle.loader.specs.Parts.{linkage_in}
use Rattle.state.specs.State.{body_numbers, joint_numbers, joint_numbers_of}
use Rattle.tick.specs.Tick.{new_joint}
use Rattle.tick.proofs.Ends.{left_is}
use Rattle.tick.proofs.Written.{none_written, row_written, rest_kept}
use Rattle.tick.proofs.linked.Tick.mark_joints.Goals as goal

pub loop-j-init : goal.loop-j-init
loop-j-init c =
    let K = linkage_in c.args.self.now.linkage in
    none_written joint_numbers_of joint_numbers (λ _. refl) (new_joint K c.args.self.now.state.now) (body_numbers * length K.bodies) c.args.new.now

pub loop-j-preserved : goal.loop-j-preserved
loop-j-preserved c =
    let t = c.args.self.now in
    let K = linkage_in t.linkage in
    let s = t.state.now in
    let l = c.loop-j in
    let p = body_numbers * length K.bodies in
    let room : p + joint_numbers * l.j + joint_numbers ≤ length c.args.new.now = omega (arith, c.requires.1, t.sized, c.loop-j-test.true) in
    let kept = rest_kept joint_numbers_of joint_numbers (λ _. refl) (new_joint K s) p c.args.new.now l.j l.invariant (omega arith) in
    let left = left_is K s l.j (omega arith) c.args.new.now l.new c.requires.0 kept (rw c.state_length-at.ensures at c.read-totals.ensures) c.broken-broken.ensures in
    row_written joint_numbers_of joint_numbers (λ _. refl) (new_joint K s) p c.args.new.now l.j l.invariant room c.state_length-at.ensures
    (c.write.ensures ∙ ap (λ k. sets l.new c.state_length-at.result (joint_numbers_of k)) left)
