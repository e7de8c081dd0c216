use Rattle.std.proofs.lemmas.Result.{err_from_is_err_and}
use borrow.Author.Tests.{lt-ltb, le-ltb}
use Rattle.card.specs.Checks.{check_of}
use Rattle.card.proofs.Editions.{other_edition}
use Rattle.card.proofs.checks.checked.Goals as goal

pub returns-then-card-lt-LEAST_BYTES : goal.returns-then-card-lt-LEAST_BYTES
unfolding check_of
returns-then-card-lt-LEAST_BYTES c = rw (lt-ltb _ _ c.if-card-lt-LEAST_BYTES.true)

pub returns-in_err-edition : goal.returns-in_err-edition
returns-in_err-edition c =
    let p = err_from_is_err_and c.from_residual.result c.from_residual.ensures.1 in
    rw (p.1, p.2, c.in_err-edition.ensures.0) (other_edition _ (le-ltb _ _ c.if-card-lt-LEAST_BYTES.false) (rw c.bits8_at.ensures at c.in_err-edition.ensures.1))
