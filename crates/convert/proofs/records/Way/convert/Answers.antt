use mathlib.Core.Path.{sym, ◌∙◌}
use Rattle.std.proofs.lemmas.Result.{err_from_is_err_and}
use Rattle.card.proofs.Refusals.{numbered}
use Rattle.convert.proofs.Answers.{by_16, own_refused}
use Rattle.convert.proofs.records.Way.convert.Goals as goal

pub returns : goal.returns
returns c = (rw c.in_ok-check_edition.ensures.bytes at c.convert_accepted.ensures) ∙ by_16 _ _ _ _ (sym c.in_ok-check_edition.ensures.number)

pub returns-in_err-check_edition : goal.returns-in_err-check_edition
returns-in_err-check_edition c =
    let p = err_from_is_err_and c.from_residual.result c.from_residual.ensures.1 in rw (p.1, p.2) (own_refused _ _ _ _ c.in_err-check_edition.ensures.number (numbered _))
