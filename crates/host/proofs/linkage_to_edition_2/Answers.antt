use native.Mathlib.Omega.{arith}
use Rattle.card.specs.declared.edition.Edition.TheVariants.{One, Two}
use Rattle.convert.proofs.Sizes.{size_small}
use Rattle.host.proofs.linkage_to_edition_2.Goals as goal

pub length_or_refusal-requires : goal.length_or_refusal-requires
length_or_refusal-requires c = omega (arith, size_small One Two (omega arith) (omega arith) _ _ c.to_edition_2.ensures)
