use Prim.Native.Nat.{ℕ, ◌+◌, ◌*◌, ◌≤◌}
use native.Mathlib.Nat.{zero-add}
use native.Mathlib.Omega.{arith}
use mathlib.Core.Path.{◌≡◌, sym, ap, ◌∙◌}
use mathlib.Core.Logic.{◌⊎◌, inl, inr}
use mathlib.Core.List.{List, ◌++◌}
use lib.ListN.{length, drop}
use lib.Seq.{sets, sets-eq}
use Rattle.std.specs.Int.{bytes_high_first}
use Rattle.card.specs.declared.edition.Edition as named
use Rattle.card.specs.declared.edition.Edition.TheVariants.{Two, Three}
use Rattle.card.specs.Card.{edition_of}
use Rattle.card.specs.Parts.{edition_number}
use Rattle.card.specs.declared.records.HeaderBits.{HeaderBits}
use Rattle.convert.specs.Convert.{packed, bytes_of}
use Rattle.convert.specs.Parts.{header_start}
use Rattle.convert.proofs.Packing.{high_first, bytes_length}
use Rattle.convert.proofs.records.write_header_bits.Goals as goal

start_1 : (h : HeaderBits) → bytes_high_first 4 (0x0100_0000 + h.bodies * 0x0004_0000 + h.joints * 0x1000 + h.rate * 4 + h.zero) ≡ header_start 1 h
unfolding header_start packed edition_of
start_1 h = high_first 4 _ ∙ ap (bytes_of 4) (omega arith)

start_2 : (e : named.Edition) (h : HeaderBits) {n : ℕ} → n ≡ edition_number e → (e ≡ Two) ⊎ (e ≡ Three)
    → bytes_high_first 8 (n * 0x0100_0000_0000_0000 + h.bodies * 0x0001_0000_0000_0000 + h.joints * 0x0100_0000_0000 + h.rate * 0x0100_0000 + h.zero) ≡ header_start (edition_number e) h
unfolding header_start packed edition_of
start_2 e h en (inl i) = rw (en, i) (high_first 8 _ ∙ ap (bytes_of 8) (omega arith))
start_2 e h en (inr i) = rw (en, i) (high_first 8 _ ∙ ap (bytes_of 8) (omega arith))

written : (out bytes : List ℕ) {new : List ℕ} (n x : ℕ) → new ≡ bytes_high_first n x → bytes_high_first n x ≡ bytes → n ≤ length out → new ++ drop n out ≡ sets out 0 bytes
written out bytes n x e is room =
    let size : length bytes ≡ n = ap length (sym is ∙ high_first n x) ∙ bytes_length n x in rw (e, is, sets-eq bytes out 0 (omega arith), zero-add (length bytes), size)

pub returns-in-One : goal.returns-in-One
returns-in-One c = rw c.in-One.is (written _ _ 4 _ (c.copy_from_slice.ensures.after ∙ c.to_be_bytes.ensures) (start_1 c.args.h) (omega (arith, c.requires.1)))

pub returns-in-Two : goal.returns-in-Two
returns-in-Two c = written _ _ 8 _ (c.copy_from_slice-in-Two.ensures.after ∙ c.to_be_bytes-in-Two.ensures) (start_2 _ c.args.h c.number.ensures c.in-Two.is) c.requires.1
