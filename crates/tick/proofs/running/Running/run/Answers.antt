use native.Mathlib.Omega.{arith}
use mathlib.Core.Path.{◌≡◌, refl, ap, ◌∙◌}
use Rattle.loader.specs.Parts.{linkage_in}
use Rattle.tick.specs.Work.{all_or_nothing}
use Rattle.tick.proofs.Ticking.{ticks_none, ticks_more, ticks_stop}
use Rattle.tick.proofs.running.Running.run.Goals as goal

pub loop-done-init : goal.loop-done-init
loop-done-init c = (refl, ticks_none (linkage_in c.args.self.now.own) c.copy_from_slice.new.self)

pub returns-in-Err : goal.returns-in-Err
returns-in-Err c =
    let l = c.loop-done in
    let s = c.args.state.now in
    let stopped = rw l.invariant.0 at c.in-Err.ensures.stopped in
    let inv = rw c.copy_from_slice.ensures.after at l.invariant.1 in
    ap (all_or_nothing s) (ticks_stop (linkage_in c.args.self.now.own) s l.done inv (omega arith) stopped)

pub loop-done-preserved : goal.loop-done-preserved
loop-done-preserved c =
    let l = c.loop-done in
    let K = linkage_in c.args.self.now.own in
    let e = rw (c.in_default.is, l.invariant.0) at c.tick.ensures.done in
    (c.tick.ensures.own ∙ l.invariant.0, ticks_more K c.copy_from_slice.new.self l.done l.invariant.1 e.0 e.1)

pub returns : goal.returns
returns c =
    let l = c.loop-done in
    let all : l.done ≡ c.args.ticks = omega arith in
    rw c.copy_from_slice-2.ensures.after
    (ap (all_or_nothing c.args.state.now) (rw (c.copy_from_slice.ensures.after, all) at l.invariant.1))
