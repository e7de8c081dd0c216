use native.Mathlib.Omega.{arith}
use native.Mathlib.Nat.{zero-add}
use mathlib.Core.Path.{◌≡◌, refl, sym, ap, ◌∙◌}
use Prim.Native.Nat.{◌<◌, ◌*◌}
use lib.ListN.{length}
use Rattle.loader.specs.Parts.{linkage_in}
use Rattle.state.specs.State.{body_numbers, numbers_of}
use Rattle.tick.specs.Tick.{new_body, new_state}
use Rattle.tick.proofs.Lengths.{pre_solve_length, solved_length}
use Rattle.tick.proofs.Turns.{finished_is}
use Rattle.tick.proofs.Written.{none_written, row_written}
use Rattle.tick.proofs.linked.Tick.finish_bodies.Goals.{Start}
use Rattle.tick.proofs.linked.Tick.finish_bodies.Goals as goal

many : (c : Start) → length c.args.bodies.now ≡ length c.args.self.now.linkage.bodies.now
many c = ap length c.requires.1 ∙ solved_length (linkage_in c.args.self.now.linkage) c.args.self.now.state.now

pub loop-i-init : goal.loop-i-init
loop-i-init c =
    none_written numbers_of body_numbers (λ _. refl) (new_body (linkage_in c.args.self.now.linkage) c.args.self.now.state.now) 0 c.args.new.now

pub invariant_of-finish : goal.invariant_of-finish
invariant_of-finish c = record { inside = omega (arith, many (goal.at.invariant_of-finish c).Start) }

pub bounds-pre_solve-i : goal.bounds-pre_solve-i
bounds-pre_solve-i c =
    let as_many = ap length c.requires.0 ∙ pre_solve_length (linkage_in c.args.self.now.linkage) c.args.self.now.state.now in
    omega (arith, many (goal.at.bounds-pre_solve-i c).Start, as_many)

pub write-requires : goal.write-requires
write-requires c = omega (arith, many (goal.at.write-requires c).Start, c.requires.3, c.args.self.now.sized)

pub loop-i-preserved : goal.loop-i-preserved
loop-i-preserved c =
    let i = c.loop-i.i in
    let K = linkage_in c.args.self.now.linkage in
    let s = c.args.self.now.state.now in
    let k : i < length K.bodies = omega (arith, many (goal.at.loop-i-preserved c).Start) in
    let e = finished_is K i s k c.requires.0 c.requires.1 _ _ c.finish-finished.ensures in
    row_written numbers_of body_numbers (λ _. refl) (new_body K s) 0 c.args.new.now i c.loop-i.invariant (omega (arith, c.requires.3, c.args.self.now.sized)) (sym (zero-add _)) (rw e at c.write.ensures)

pub returns : goal.returns
unfolding new_state
returns c =
    let all : c.loop-i.i ≡ length c.args.self.now.linkage.bodies.now = omega (arith, many (goal.at.returns c).Start) in
    rw (← c.requires.2, ← all, ← (zero-add (body_numbers * c.loop-i.i))) c.loop-i.invariant
