-- A header and a joint of one edition in another: the bits before their floats are packed anew, and the floats keep their bytes.
use Prim.Native.Nat.{ℕ, zero, suc, ◌+◌, ◌*◌, ◌-◌, ◌/◌, ◌^◌, ◌≤◌, ◌<◌}
use native.Mathlib.Nat.{zero-mul, zero-add, add-mul, mul_assoc, add_assoc}
use native.Mathlib.Omega.{arith}
use mathlib.Core.Path.{◌≡◌, refl, sym, ap, ◌∙◌}
use mathlib.Core.List.{List, [], ◌∷◌, ◌++◌, append-nil}
use lib.Dec.{eqb}
use lib.ListN.{length, get_or, set, take, drop, length-drop}
use lib.Seq.{sets, length-take-le, take_all}
use lib.Pow.{pow-add}
use Rattle.std.specs.Int.{bytes_high_first}
use Rattle.card.specs.Format.{bits_at, Cell, width_of, numbers_at}
use Rattle.card.specs.Card.{edition_of}
use Rattle.card.specs.declared.edition.Edition as named
use Rattle.card.specs.declared.edition.Edition.TheVariants.{One, Two, Three}
use Rattle.card.specs.Parts.{header_bits, joint_bits}
use Rattle.card.specs.declared.records.HeaderBits.{HeaderBits}
use Rattle.card.specs.declared.records.JointBits.{JointBits}
use Rattle.card.proofs.Packed.{below}
use Rattle.card.proofs.Editions.{cells}
use Rattle.convert.specs.Convert.{packed, bytes_of, record_bytes}
use Rattle.convert.specs.Parts.{bit_of, SmallHeader, SmallJoint, header_start, joint_start}
use Rattle.convert.proofs.Packing.{power, high_first, bytes_length, bytes_append, read_fits, packed_below, record_bytes_lem}
use Rattle.convert.proofs.Pieces.{none_behind, overwritten}
use Rattle.convert.proofs.Editions.{Row, edition_in, width_is}

-- ---- a record in two parts

width_append : (cs ds : List Cell) → width_of (cs ++ ds) ≡ width_of cs + width_of ds
width_append [] ds = sym (zero-add (width_of ds))
width_append (c ∷ cs) ds = rw (width_append cs ds) (sym (add_assoc c.width (width_of cs) (width_of ds)))

packed_append : (cs ds : List Cell) (ns ms : List ℕ) → length ns ≡ length cs → packed (cs ++ ds) (ns ++ ms) ≡ packed cs ns * 2 ^ width_of ds + packed ds ms
unfolding packed
packed_append [] ds [] ms e = rw (zero-mul (2 ^ width_of ds)) (omega arith)
packed_append [] ds (n ∷ ns) ms e = absurd (omega arith)
packed_append (c ∷ cs) ds [] ms e = absurd (omega arith)
packed_append (c ∷ cs) ds (n ∷ ns) ms e =
    rw (packed_append cs ds ns ms (omega arith), width_append cs ds, pow-add 2 (width_of cs) (width_of ds), ← (mul_assoc n (2 ^ width_of cs) (2 ^ width_of ds)))
    (rw (add-mul (n * 2 ^ width_of cs) (packed cs ns) (2 ^ width_of ds)) (omega arith))

-- bits of m bytes, and behind them floats as they stand in a part, from byte k on
two_parts : (cs ds : List Cell) (m n : ℕ) → width_of cs ≡ 8 * m → width_of ds ≡ 8 * n → (part : List ℕ) → ((i : ℕ) → get_or part i 0 < 256) → (ns : List ℕ) (k : ℕ)
    → length ns ≡ length cs → k + n ≤ length part → record_bytes (cs ++ ds) (ns ++ numbers_at ds part (8 * k)) ≡ bytes_of m (packed cs ns) ++ take n (drop k part)
two_parts cs ds m n wc wd part small ns k e h =
    let ms = numbers_at ds part (8 * k) in
    let low : packed ds ms < 256 ^ n = rw (← (power n), ← wd) (packed_below ds ms (read_fits ds part (8 * k))) in
    let size : (8 * m + 8 * n) / 8 ≡ m + n = omega arith in
    let floats : 8 * n / 8 ≡ n = omega arith in
    let rest : bytes_of n (packed ds ms) ≡ take n (drop k part) = rw (wd, floats) at (record_bytes_lem part small ds n k wd h) in
    rw (width_append cs ds, packed_append cs ds ns ms e, wc, wd, size, power n, bytes_append m n (packed cs ns) (packed ds ms) low, rest)

-- ---- a joint

flag_bit : (n : ℕ) → n < 2 → bit_of (eqb n 1) ≡ n
flag_bit zero h = refl
flag_bit (suc zero) h = refl
flag_bit (suc (suc n)) h = absurd (omega arith)

module _ {from to : ℕ} (a : Row from) (b : Row to) (part : List ℕ) where
  abbrev joint_numbers_lem : List ℕ
  joint_numbers_lem = numbers_at (edition_in a).joint part 0

  -- the numbers before its floats
  joint_start_lem : packed (take 7 (edition_in b).joint) (take 7 joint_numbers_lem) ≡ joint_start to (joint_bits joint_numbers_lem)
  unfolding joint_start joint_bits numbers_at
  joint_start_lem =
      let p = 3 + a.numbers + a.numbers in
      rw (b.listed, flag_bit (bits_at part p 1) (below part p 1), flag_bit (bits_at part (p + 1) 1) (below part (p + 1) 1))

  joint_parts : ((i : ℕ) → get_or part i 0 < 256) → 123 ≤ length part
      → record_bytes (edition_in b).joint joint_numbers_lem ≡ bytes_of 3 (joint_start to (joint_bits joint_numbers_lem)) ++ take 120 (drop 3 part)
  unfolding numbers_at
  joint_parts small h =
      let ns = take 7 joint_numbers_lem in
      let cs = take 7 (edition_in b).joint in
      let ds = drop 7 (edition_in b).joint in
      let place : 0 + 3 + a.numbers + a.numbers + 1 + 1 + 2 + a.spare ≡ 24 = omega (arith, a.whole_joint) in
      let whole : width_of cs ≡ 8 * 3 = omega (arith, b.whole_joint) in
      ap (λ q. record_bytes (edition_in b).joint (ns ++ numbers_at ds part q)) place ∙ two_parts cs ds 3 120 whole refl part small ns 3 refl h
      ∙ ap (λ w. bytes_of 3 w ++ take 120 (drop 3 part)) joint_start_lem

  -- ---- a header

  abbrev header_numbers : List ℕ
  header_numbers = numbers_at (edition_in a).header part 0

  pub header_parts : ((i : ℕ) → get_or part i 0 < 256) → a.bytes ≤ length part
      → record_bytes (edition_in b).header (set header_numbers 0 to) ≡ header_start to (header_bits header_numbers) ++ take 8 (drop (a.bytes - 8) part)
  unfolding numbers_at header_start header_bits
  header_parts small h =
      let ns = take 5 (set header_numbers 0 to) in
      let cs = take 5 (edition_in b).header in
      let ds = drop 5 (edition_in b).header in
      let place : 8 + a.counts + a.counts + a.rate + a.zeros ≡ 8 * (a.bytes - 8) = omega (arith, a.whole_header, a.shortest) in
      let whole : width_of cs ≡ 8 * (b.bytes - 8) = omega (arith, b.whole_header, b.shortest) in
      let size : 8 * b.bytes / 8 ≡ b.bytes = omega arith in
      ap (λ q. record_bytes (edition_in b).header (ns ++ numbers_at ds part q)) place
      ∙ two_parts cs ds (b.bytes - 8) 8 whole refl part small ns (a.bytes - 8) refl (omega (arith, h, a.shortest))
      ∙ rw (b.listed, b.whole_header, size) refl

-- ---- the numbers that are read are small

pub small_header : (l : List ℕ) (e : named.Edition) → SmallHeader (header_bits (numbers_at (cells e).header l 0))
unfolding edition_of numbers_at header_bits
small_header l One = record { bodies = omega (arith, below l 8 6); joints = omega (arith, below l 14 6); rate = omega (arith, below l 20 10); zero = omega (arith, below l 30 2) }
small_header l Two = record { bodies = below l 8 8; joints = below l 16 8; rate = below l 24 16; zero = below l 40 24 }
small_header l Three = record { bodies = below l 8 8; joints = below l 16 8; rate = below l 24 16; zero = below l 40 24 }

pub small_joint : (l : List ℕ) (e : named.Edition) → SmallJoint (joint_bits (numbers_at (cells e).joint l 0))
unfolding edition_of numbers_at joint_bits
small_joint l One = record { kind = below l 0 3; body1 = omega (arith, below l 3 5); body2 = omega (arith, below l 8 5); motor = below l 15 2; zero = below l 17 7 }
small_joint l Two = record { kind = below l 0 3; body1 = below l 3 8; body2 = below l 11 8; motor = below l 21 2; zero = omega (arith, below l 23 1) }
small_joint l Three = record { kind = below l 0 3; body1 = below l 3 8; body2 = below l 11 8; motor = below l 21 2; zero = omega (arith, below l 23 1) }

-- ---- as they are written

module _ {from to : ℕ} (a : Row from) (b : Row to) (part : List ℕ) (small : (i : ℕ) → get_or part i 0 < 256) where
  pub joint_written : {w : ℕ} {copied bits : List ℕ} {j : JointBits} → length part ≡ 123 → j ≡ joint_bits (numbers_at (edition_of from).joint part 0)
      → w ≡ joint_start to j → copied ≡ part → bits ≡ bytes_high_first 3 w
      → bits ++ drop 3 copied ≡ record_bytes (edition_of to).joint (numbers_at (edition_of from).joint part 0)
  joint_written {w} {copied} {bits} {j} long ej ew e eb =
      let rest : drop 3 part ≡ take 120 (drop 3 part) = sym (take_all 120 (drop 3 part) (rw (length-drop 3 part) (omega arith))) in
      let parts = joint_parts a b part small (omega arith) in rw (eb ∙ high_first 3 w, e, rest, ew, ej, a.listed, b.listed, parts)

  start_length : (h : HeaderBits) → length (header_start to h) ≡ b.bytes - 8
  unfolding header_start
  start_length h = bytes_length _ _ ∙ rw (width_is b) (omega arith)

  pub header_written : (out : List ℕ) {d new : List ℕ} {h : HeaderBits} → length part ≡ a.bytes → length out ≡ b.bytes
      → h ≡ header_bits (numbers_at (edition_of from).header part 0)
      → let read = length part - 8 in let written = length out - 8 in d ≡ take (length part - read) (drop read part)
      → new ≡ sets (take written out ++ (d ++ drop (length out - written) (drop written out))) 0 (header_start to h)
      → new ≡ record_bytes (edition_of to).header (set (numbers_at (edition_of from).header part 0) 0 to)
  header_written out {d} {new} {h} long room eh ed en =
      let read = length part - 8 in
      let written = length out - 8 in
      let some : length part - read ≡ 8 = omega (arith, long, a.shortest) in
      let front : length (take written out) ≡ written = length-take-le written out (omega arith) in
      let start : length (header_start to h) ≡ length (take written out) = start_length h ∙ omega (arith, room, front) in
      let parts = header_parts a b part small (omega (arith, long)) in
      let place : a.bytes - 8 ≡ read = omega (arith, long) in
      rw (en, none_behind out written, append-nil d, overwritten (take written out) d (header_start to h) start, ed, eh, a.listed, b.listed, parts, place, some)
