use native.Mathlib.Omega.{arith}
use mathlib.Core.Path.{◌≡◌, sym, ap, ◌∙◌}
use lib.ListN.{length}
use Rattle.numbers.proofs.Loops.{after_none, after_turn, after_done}
use Rattle.loader.specs.Parts.{linkage_in}
use Rattle.tick.specs.Tick.{put_pair, warm_started}
use Rattle.tick.proofs.Lengths.{loaded_length}
use Rattle.tick.proofs.Turns.{undriven, both_put, warm_skip}
use Rattle.tick.proofs.linked.Tick.warm_start.Goals.{Start, then-driven, else-driven}
use Rattle.tick.proofs.linked.Tick.warm_start.Goals as goal

many : (c : Start) → length c.args.bodies.now ≡ length c.args.self.now.linkage.bodies.now
many c = ap length c.requires ∙ loaded_length (linkage_in c.args.self.now.linkage) c.args.self.now.state.now

pub loop-j-init : goal.loop-j-init
loop-j-init c = c.requires ∙ sym (after_none _ _)

pub invariant_of-joint-clause-whole : goal.invariant_of-joint-clause-whole
invariant_of-joint-clause-whole c = omega (arith, many (goal.at.invariant_of-joint-clause-whole c).Start)

pub put-requires : goal.put-requires
put-requires c = rw c.first-first.ensures.0 (omega (arith, many (goal.at.put-requires c).Start))

pub loop-j-preserved-then-skipped : goal.loop-j-preserved-then-skipped
loop-j-preserved-then-skipped c = after_turn _ _ c.loop-j.invariant (rw (sym c.skipped.ensures ∙ c.if-skipped.true))

pub loop-j-preserved : goal.loop-j-preserved
loop-j-preserved c =
    let t = c.args.self.now in
    let K = linkage_in t.linkage in
    let l = c.loop-j in
    let whole = sym c.skipped.ensures ∙ c.if-skipped.false in
    after_turn _ _ l.invariant
    (elim c.if-driven.branch [
      | then-driven w ↦ w.bodies-is ∙ rw whole (both_put t l.j (w.first-first.ensures, w.second-second.ensures) _ _ w.put.ensures w.put-then-driven.ensures ∙ ap (λ p. put_pair K l.j p l.bodies) w.warmed-warmed.ensures)
      | else-driven w ↦ w.bodies-is ∙ warm_skip K t.state.now l.j whole (undriven t l.j (omega arith) _ c.driven.ensures w.if-driven.false) l.bodies
    ])

pub returns : goal.returns
unfolding warm_started
returns c = after_done _ _ c.loop-j.invariant (omega arith) (omega arith)
