use native.Mathlib.Omega.{arith}
use mathlib.Core.Path.{sym}
use Rattle.std.proofs.lemmas.Result.{err_from_is_err_and}
use Rattle.card.proofs.Refusals.{numbered}
use Rattle.state.proofs.Starting.{fitting, sizes_refused, sizes_are}
use Rattle.state.proofs.sizes.sizes.Goals as goal

pub state_length-requires : goal.state_length-requires
state_length-requires c = omega (arith, fitting _ c.in_ok-card.card.accepted _ c.of.ensures c.header_bits-h.ensures)

pub returns : goal.returns
returns c =
    let z = c.in_ok-card.card.accepted in rw (← c.in_ok-card.ensures.bytes) (sizes_are _ z _ c.of.ensures c.header_bits-h.ensures (sym z) c.state_length.ensures)

pub returns-in_err-card : goal.returns-in_err-card
returns-in_err-card c =
    let p = err_from_is_err_and c.from_residual.result c.from_residual.ensures.1 in rw (p.1, p.2) (sizes_refused _ _ c.in_err-card.ensures.number (numbered _))
