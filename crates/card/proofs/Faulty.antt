-- What is found in records one after the other, each in its own part of the card.
use Rattle.std.proofs.Common.{ℕ, ◌≡◌, false, List, [], ◌∷◌, map, ◌∙◌}
use mathlib.Core.Bool.{or-false, or_assoc}
use denote.Ref.{Bor}
use Rattle.std.specs.List.{fold}
use Rattle.card.specs.declared.checks.Faults.{Faults}
use Rattle.card.specs.Format.{Cell, numbers_at}
use Rattle.card.specs.Checks.{any}
use Rattle.card.specs.Parts.{faults, or_faults, faults_of}

module _ (cs : List Cell) (f : List ℕ → Faults) where
  abbrev found_from : Faults → List (Bor (List ℕ)) → Faults
  found_from a parts = fold (λ b x. or_faults b (f (numbers_at cs x.now 0))) a parts

  abbrev pub found : List (Bor (List ℕ)) → Faults
  found parts = found_from (faults false false false false false false) parts

  folded : (a : Faults) (parts : List (Bor (List ℕ))) → found_from a parts ≡ or_faults a (faults_of f (map (λ x. numbers_at cs x.now 0) parts))
  unfolding or_faults faults_of any
  folded a [] = simp or-false
  folded a (x ∷ parts) = folded (or_faults a (f (numbers_at cs x.now 0))) parts ∙ simp or_assoc

  pub all_found : (parts : List (Bor (List ℕ))) {rs : List (List ℕ)} → map (λ x. numbers_at cs x.now 0) parts ≡ rs → found parts ≡ faults_of f rs
  unfolding or_faults
  all_found parts e = rw (← e) (folded (faults false false false false false false) parts)
