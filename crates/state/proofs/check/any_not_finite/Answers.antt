use mathlib.Core.Path.{◌≡◌, refl, subst}
use mathlib.Core.Bool.{not}
use borrow.Author.Rules.{rules}
use Rattle.std.proofs.lemmas.Fn.{fold_over, slice_gives, fronts}
use Rattle.scalar.specs.Scalar.{is_finite}
use Rattle.numbers.specs.Lists.{all}
use Rattle.state.proofs.Found.{next_number}
use Rattle.state.proofs.check.any_not_finite.Goals as goal

pub returns : goal.returns
unfolding all
returns c =
    subst (λ l. c.fold.result ≡ not (all is_finite l)) c.iter.ensures.rest
    (fold_over fronts (λ y. y.now) _ (λ ys b. b ≡ not (all is_finite ys)) _ (λ ys a x b f h e. let next = next_number ys x.now {bad = a} {after = b} h in search rules) _ _ _ _ (slice_gives c.iter.result) refl c.fold.ensures.ran)
