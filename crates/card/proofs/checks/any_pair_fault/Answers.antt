use Rattle.std.proofs.Common.{◌≤◌, arith, rules, ◌∙◌}
use Rattle.std.proofs.lemmas.Iterator.Search.{any_from_yields_List}
use Rattle.card.specs.Parts.{joint_bits}
use Rattle.card.proofs.Chunks.{asked, chunks}
use Rattle.card.proofs.Editions.{cells, joint_width, joint_bytes_lem}
use Rattle.card.proofs.Loops.{any_listed}
use Rattle.card.proofs.checks.any_pair_fault.Goals as goal

pub any-requires-clause-callable : goal.any-requires-clause-callable
any-requires-clause-callable c = let long : 123 ≤ c.sizes-size.result.joint_bytes = rw c.sizes-size.ensures (joint_bytes_lem c.args.edition).0 in asked (λ x q r. search rules) (λ x e. search rules)

pub returns : goal.returns
unfolding joint_bits
returns c =
    let a = c.args in
    let e = c.chunks_exact.ensures in
    let s = c.sizes-size.ensures in
    any_from_yields_List _ _ _ _ c.any.ensures.ran (chunks (cells a.edition).joint _ (joint_width a.edition) (omega (arith, (joint_bytes_lem a.edition).0)) a.card.now a.joints_at a.joints c.requires.1 (rw s at e.size) e.rest (rw s (omega arith))) (λ x b q k. search rules)
    ∙ any_listed _ _
