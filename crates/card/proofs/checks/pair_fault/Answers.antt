use Prim.Native.Nat.{ℕ, ◌+◌, ◌*◌, ◌-◌, ◌<◌}
use native.Mathlib.Omega.{arith}
use mathlib.Core.Path.{◌≡◌, refl, sym, ap, ◌∙◌}
use mathlib.Core.List.{List}
use lib.ListN.{take, drop}
use borrow.Author.Tests.{lt-leb, ne_eqb}
use Rattle.card.specs.declared.records.BodyBits.{BodyBits}
use Rattle.card.specs.Format.{numbers_at, records_at}
use Rattle.card.specs.Card.{body}
use Rattle.card.specs.Checks.{anchored}
use Rattle.card.specs.Parts.{body_bits}
use Rattle.card.proofs.Cut.{numbers_part, records_length, record_at}
use Rattle.card.proofs.checks.pair_fault.Goals as goal

-- a body's own part says whether it is anchored
anchored_at : (l : List ℕ) (at n a k : ℕ) {b : BodyBits} → a < n → k ≡ 94 → b ≡ body_bits (numbers_at body (take k (drop (at + 94 * a) l)) 0)
    → b.anchored ≡ anchored (records_at body l (8 * at) n) a
unfolding body_bits
anchored_at l at n a k h e eb =
    let place : 8 * (at + 94 * a) ≡ 8 * at + a * 752 = omega arith in
    let numbers = numbers_part l (at + 94 * a) k body (omega arith) ∙ ap (numbers_at body l) place ∙ sym (record_at body l (8 * at) n a h) in
    rw (eb, numbers) refl

pub returns : goal.returns
returns c =
    let a = c.args in
    let at_a = a.at + 94 * a.a in
    let at_b = a.at + 94 * a.b in
    simp (
      records_length,
      lt-leb _ _ c.if-bodies-a.false,
      lt-leb _ _ c.if-bodies-b.false,
      ne_eqb _ _ c.if-a-b.false,
      anchored_at a.card.now a.at a.bodies a.a (at_a + 94 - at_a) (omega arith) (omega arith) c.body_bits-anchored_a.ensures,
      anchored_at a.card.now a.at a.bodies a.b (at_b + 94 - at_b) (omega arith) (omega arith) c.body_bits-anchored_b.ensures,
    )
