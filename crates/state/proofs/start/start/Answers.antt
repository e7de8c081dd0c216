use native.Mathlib.Omega.{arith}
use mathlib.Core.Path.{sym, ◌∙◌}
use Rattle.std.proofs.lemmas.Result.{err_from_is_err_and}
use Rattle.card.proofs.Refusals.{numbered}
use Rattle.state.proofs.Starting.{fitting, start_refused, length_refused, written}
use Rattle.state.proofs.start.start.Goals as goal

pub state_length-requires : goal.state_length-requires
state_length-requires c = omega (arith, fitting _ c.in_ok-card.card.accepted _ c.of-edition.ensures c.header_bits-h.ensures)

pub write_bodies-requires : goal.write_bodies-requires
write_bodies-requires c =
    let f = fitting _ c.in_ok-card.card.accepted _ c.of-edition.ensures c.header_bits-h.ensures in (rw c.sizes.ensures f.2, omega arith)

pub returns-in_err-card : goal.returns-in_err-card
returns-in_err-card c =
    let p = err_from_is_err_and c.from_residual.result c.from_residual.ensures.1 in rw (p.1, p.2) (start_refused _ _ _ c.in_err-card.ensures.number (numbered _))

pub returns-then-state-state_length : goal.returns-then-state-state_length
returns-then-state-state_length c =
    rw (← c.in_ok-card.ensures.bytes)
    (length_refused _ c.in_ok-card.card.accepted _ c.of-edition.ensures c.header_bits-h.ensures _ (λ e. c.if-state-state_length.true (e ∙ sym c.state_length.ensures)))

pub returns : goal.returns
returns c =
    rw (← c.in_ok-card.ensures.bytes)
    (written _ c.in_ok-card.card.accepted _ c.of-edition.ensures c.header_bits-h.ensures _ (c.if-state-state_length.false ∙ c.state_length.ensures) c.sizes.ensures (c.fill.ensures.after (λ y h. h)) c.write_bodies.ensures)
