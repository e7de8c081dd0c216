-- Numbers that are all finite, part by part.
use mathlib.Core.Path.{◌≡◌, ap, ◌∙◌}
use mathlib.Core.Bool.{Bool, ◌&&◌}
use mathlib.Core.List.{List, ◌++◌}
use lib.Ieee.{Float}
use Rattle.scalar.specs.Scalar.{is_finite}
use Rattle.numbers.specs.Lists.{all}
use Rattle.numbers.proofs.Rows.{all_append}

abbrev finite : List Float → Bool
finite l = all is_finite l

pub both : (l m : List Float) → finite (l ++ m) ≡ (finite l && finite m)
both = all_append is_finite

pub three : (l m n : List Float) → finite (l ++ m ++ n) ≡ (finite l && finite m && finite n)
three l m n = both (l ++ m) n ∙ ap (λ (v : Bool). v && finite n) (both l m)

pub four : (l m n o : List Float) → finite (l ++ m ++ n ++ o) ≡ (finite l && finite m && finite n && finite o)
four l m n o = both (l ++ m ++ n) o ∙ ap (λ (v : Bool). v && finite o) (three l m n)

pub six : (l m n o p q : List Float) → finite (l ++ m ++ n ++ o ++ p ++ q) ≡ (finite l && finite m && finite n && finite o && finite p && finite q)
six l m n o p q = three (l ++ m ++ n ++ o) p q ∙ ap (λ (v : Bool). v && finite p && finite q) (four l m n o)
