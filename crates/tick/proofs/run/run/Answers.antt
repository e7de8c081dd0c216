use native.Mathlib.Omega.{arith}
use Prim.Native.Nat.{ℕ}
use mathlib.Core.Path.{◌≡◌, sym, ◌∙◌}
use Rattle.card.specs.Card.{card_of}
use Rattle.card.proofs.Refusals.{numbered}
use Rattle.loader.specs.Linkage.{linkage_of}
use Rattle.loader.proofs.Accepted.{counts_within}
use Rattle.tick.specs.Run.{run_of}
use Rattle.tick.specs.Work.{all_or_nothing, ticks_of}
use Rattle.tick.proofs.Ticking.{card_refused, length_refused, start_passed, state_refused, mark_refused, run_refused, run_none, tick_refused, run_is, length_is, numbers_are, marks_are, some}
use Rattle.tick.proofs.run.run.Goals.{Else-bad_marks}
use Rattle.tick.proofs.run.run.Goals as goal

pub state_length-requires : goal.state_length-requires
state_length-requires c =
    omega (arith, counts_within _ c.in-Ok.card.accepted c.header_of-h.ensures)

pub bad_numbers-requires : goal.bad_numbers-requires
bad_numbers-requires c =
    omega (arith, c.if-state-state_length.false, c.state_length.ensures)

pub bad_marks-requires : goal.bad_marks-requires
bad_marks-requires c =
    omega (arith, c.if-state-state_length.false, c.state_length.ensures)

-- ---- past the last refusal

ran_so : (n : Else-bad_marks) (ticks : ℕ) → let card = n.in-Ok.card.bytes.now in all_or_nothing n.args.state.now (ticks_of (linkage_of (card_of card)) n.args.state.now ticks) ≡ run_of n.args.card.now n.args.state.now ticks
ran_so n ticks =
    let card = n.in-Ok.card.bytes.now in
    let z = n.in-Ok.card.accepted in
    let len = n.if-state-state_length.false ∙ n.state_length.ensures ∙ length_is card z n.header_of-h.ensures in
    let numbers = numbers_are card z n.header_of-h.ensures n.args.state.now ∙ sym n.bad_numbers.ensures ∙ n.if-bad_numbers.false in
    let marks = marks_are card z n.header_of-h.ensures n.args.state.now ∙ sym n.bad_marks.ensures ∙ n.if-bad_marks.false in
    rw (← n.in-Ok.ensures.bytes) (run_is card z n.args.state.now (len, numbers, marks) ticks)

pub run_within-requires-2-clause-room : goal.run_within-requires-2-clause-room
run_within-requires-2-clause-room c =
    let within = counts_within _ c.in-Ok.card.accepted c.header_of-h.ensures in
    omega (arith, within)

pub returns-in-Err : goal.returns-in-Err
returns-in-Err c =
    let card = c.args.card.now in
    let s = c.args.state.now in
    let x = numbered c.in-Err.refusal in
    rw (c.refused.ensures.0, c.refused.ensures.1) (run_refused card s (card_refused card s _ c.in-Err.ensures.number x) x _)

pub returns-then-state-state_length : goal.returns-then-state-state_length
returns-then-state-state_length c =
    let card = c.in-Ok.card.bytes.now in
    let s = c.args.state.now in
    let z = c.in-Ok.card.accepted in
    let size = length_is card z c.header_of-h.ensures in
    let n = length_refused card s z (λ e. c.if-state-state_length.true (e ∙ sym (c.state_length.ensures ∙ size))) in
    rw (c.refused-then-state-state_length.ensures.0, c.refused-then-state-state_length.ensures.1, ← c.in-Ok.ensures.bytes) (run_refused card s n (λ e. omega (arith, e)) _)

pub returns-then-ticks-eq0 : goal.returns-then-ticks-eq0
returns-then-ticks-eq0 c =
    let card = c.in-Ok.card.bytes.now in
    let s = c.args.state.now in
    let z = c.in-Ok.card.accepted in
    let size = length_is card z c.header_of-h.ensures in
    let len = c.if-state-state_length.false ∙ c.state_length.ensures ∙ size in
    rw (← c.in-Ok.ensures.bytes) (run_none card s (start_passed card s z len) c.if-ticks-eq0.true)

pub returns-then-bad_numbers : goal.returns-then-bad_numbers
returns-then-bad_numbers c =
    let card = c.in-Ok.card.bytes.now in
    let s = c.args.state.now in
    let z = c.in-Ok.card.accepted in
    let size = length_is card z c.header_of-h.ensures in
    let len = c.if-state-state_length.false ∙ c.state_length.ensures ∙ size in
    let bad = numbers_are card z c.header_of-h.ensures s ∙ sym c.bad_numbers.ensures ∙ c.if-bad_numbers.true in
    rw (c.refused-then-bad_numbers.ensures.0, c.refused-then-bad_numbers.ensures.1, ← c.in-Ok.ensures.bytes)
    (tick_refused card s (start_passed card s z len) (state_refused card s z len bad) (λ e. omega (arith, e)) (some c.args.ticks c.if-ticks-eq0.false))

pub returns-then-bad_marks : goal.returns-then-bad_marks
returns-then-bad_marks c =
    let card = c.in-Ok.card.bytes.now in
    let s = c.args.state.now in
    let z = c.in-Ok.card.accepted in
    let e = c.header_of-h.ensures in
    let len = c.if-state-state_length.false ∙ c.state_length.ensures ∙ length_is card z e in
    let ok = numbers_are card z e s ∙ sym c.bad_numbers.ensures ∙ c.if-bad_numbers.false in
    let bad = marks_are card z e s ∙ sym c.bad_marks.ensures ∙ c.if-bad_marks.true in
    rw (c.refused-then-bad_marks.ensures.0, c.refused-then-bad_marks.ensures.1, ← c.in-Ok.ensures.bytes)
    (tick_refused card s (start_passed card s z len) (mark_refused card s z len ok bad) (λ e. omega (arith, e)) (some c.args.ticks c.if-ticks-eq0.false))

pub returns-then-most-le-FEW : goal.returns-then-most-le-FEW
returns-then-most-le-FEW c = c.run_within.ensures ∙ ran_so (goal.at.returns-then-most-le-FEW c).Else-bad_marks _

pub returns-then-most-le-MANY : goal.returns-then-most-le-MANY
returns-then-most-le-MANY c = c.run_within-then-most-le-MANY.ensures ∙ ran_so (goal.at.returns-then-most-le-MANY c).Else-bad_marks _

pub returns : goal.returns
returns c = c.run_within-2.ensures ∙ ran_so (goal.at.returns c).Else-bad_marks _
