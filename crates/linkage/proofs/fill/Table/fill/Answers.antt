use Rattle.std.proofs.Common.{arith, refl, ◌∙◌}
use Rattle.card.proofs.Refusals.{numbered}
use Rattle.linkage.proofs.Output.{tick_written, refusal_written}
use Rattle.linkage.proofs.fill.Table.fill.Goals as goal

pub returns-in-Err-clause-state_value : goal.returns-in-Err-clause-state_value
returns-in-Err-clause-state_value c =
    let l = c.loop-done in
    let t = l.self in
    rw (c.tick.ensures.kept.0, c.tick.ensures.kept.1)
    (refusal_written t.card.now t.bodies l.done t.state.now refl (rw (← c.tick.ensures.value, c.in-Err.is) refl) c.args.ticks l.out.items (omega arith) l.invariant.4 (numbered _) c.put_refusal.ensures.bytes)

pub loop-done-preserved : goal.loop-done-preserved
loop-done-preserved c =
    let l = c.loop-done in
    let t = l.self in (
      omega (arith, c.put_lines.ensures.len),
      omega (arith, c.put_lines.ensures.len, c.len.ensures.value),
      c.tick.ensures.kept.0 ∙ l.invariant.2,
      c.tick.ensures.kept.1 ∙ l.invariant.3,
      rw (c.tick.ensures.kept.0, c.tick.ensures.kept.1)
          (tick_written t.card.now t.bodies l.done t.state.now refl (rw (← c.tick.ensures.value, c.in_default.is) refl) c.args.ticks l.out.items (omega arith) l.invariant.4 refl (rw (← c.tick.ensures.kept.1) c.put_lines.ensures.bytes)),
    )
