use Prim.Native.Nat.{ℕ, ◌≤◌}
use native.Mathlib.Omega.{arith}
use mathlib.Core.Path.{◌≡◌, ◌∙◌}
use mathlib.Core.Bool.{Bool, false, ◌||◌}
use lib.Dec.{ltb}
use lib.Seq.{length-take-le}
use borrow.Author.Tests.{ltb-false}
use Rattle.card.proofs.Bools.{or_right}
use Rattle.card.specs.Parts.{sizes_of}
use Rattle.convert.specs.Parts.{length_in}
use Rattle.convert.proofs.Accepting.{length_is, refused_16, done_16}
use Rattle.convert.proofs.Editions.{row, size_is, joint_width_is}
use Rattle.convert.proofs.records.Way.convert_accepted.Goals as goal

-- a slice that is not refused holds the result
room : (large : Bool) {size n : ℕ} → (large || ltb size n) ≡ false → n ≤ size
room large e = ltb-false _ _ (or_right large _ e)

pub returns-then-too_large-out : goal.returns-then-too_large-out
returns-then-too_large-out c =
    let a = c.args in
    refused_16 (row a.self.from a.self.convertible.0) (row a.self.to a.self.convertible.1) a.card.bytes.now c.requires c.args.card.accepted c.header_bits-h.ensures a.out.now c.too_large.ensures c.length_in-length.ensures c.if-too_large-out.true

pub write_card-requires : goal.write_card-requires
unfolding length_in sizes_of
write_card-requires c =
    let a = c.args in (
      omega (arith, size_is a.self.from a.self.convertible.0, length_is (row a.self.from a.self.convertible.0) (row a.self.to a.self.convertible.1) a.card.bytes.now c.requires c.args.card.accepted c.header_bits-h.ensures),
      length-take-le _ _ (room c.too_large.result c.if-too_large-out.false) ∙ (rw (joint_width_is (row a.self.to a.self.convertible.1)) at c.length_in-length.ensures),
    )

pub returns : goal.returns
returns c =
    let a = c.args in
    done_16 (row a.self.from a.self.convertible.0) (row a.self.to a.self.convertible.1) a.card.bytes.now c.requires c.args.card.accepted c.header_bits-h.ensures a.out.now c.too_large.ensures c.length_in-length.ensures c.if-too_large-out.false c.write_card.ensures
