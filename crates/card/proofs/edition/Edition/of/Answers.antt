use Rattle.std.specs.Prelude.{◌≡◌, ℕ, false, IsTrue, Result, Ok, Err, MatchResult, IsOk}
use mathlib.Core.Path.{refl, sym, ◌∙◌}
use mathlib.Core.Bool.{true≢false}
use Rattle.card.specs.declared.edition.Edition as named
use Rattle.card.specs.declared.refusal.Refusal.{Refusal}
use Rattle.card.specs.declared.refusal.Refusal.TheVariants.{WrongEdition}
use Rattle.card.specs.Parts.{edition_number, edition_fault}
use Rattle.card.proofs.Editions.{listed}
use Rattle.card.proofs.Accepted.{edition}
use Rattle.card.proofs.edition.Edition.of.Goals as goal

found : (n : ℕ) → edition_fault n ≡ false → (r : Result named.Edition Refusal)
    → MatchResult r (λ e. edition_number e ≡ n) (λ x. (x ≡ WrongEdition) × IsTrue (edition_fault n)) → IsOk r
found n none (Ok e) m = refl
found n none (Err x) m = absurd (true≢false (sym m.1 ∙ none))

pub unwrap-requires : goal.unwrap-requires
unwrap-requires c = let e = edition _ c.args.card.accepted in found _ (rw (c.bits8_at.ensures, ← e.1) (listed e.0)) _ c.try_from.ensures
