-- A card that no check refuses: its header, and where its bodies and joints stand.
use Prim.Native.Nat.{ℕ, ◌+◌, ◌*◌, ◌-◌, ◌≤◌, ◌<◌}
use native.Mathlib.Nat.{mul_assoc}
use native.Mathlib.Omega.{arith}
use mathlib.Core.Path.{◌≡◌, refl}
use mathlib.Core.List.{List, []}
use lib.ListN.{length, get_or}
use lib.Dec.{T}
use lib.IntN.{pos}
use lib.Ieee.{Float, binary32, in_float, of_int}
use borrow.Author.Tests.{le-leb}
use Rattle.scalar.specs.Arith.{◌⊘◌, f1}
use Rattle.card.specs.declared.edition.Edition as named
use Rattle.card.specs.declared.records.HeaderBits.{HeaderBits}
use Rattle.card.specs.Format.{bits_at, Cell, width_of, numbers_at, records_at}
use Rattle.card.specs.Card.{at, body, kind_of, card_of}
use Rattle.card.specs.Accepted.{Narrow}
use Rattle.card.specs.Checks.{check_of}
use Rattle.card.specs.Parts.{edition_number, sizes_of, card_with, header_bits, float_at}
use Rattle.card.proofs.Cut.{records_length, record_at}
use Rattle.card.proofs.Editions.{cells, header_floats, joint_width, header_width, header_bytes_lem, fastest_4000, card_is}
use Rattle.card.proofs.Accepted.{accepted, at_most_200}
use Rattle.loader.specs.declared.header.Header.{Header}
use Rattle.loader.specs.Parts.{header_of}

-- the card begins with edition n
module _ (card : List ℕ) (z : check_of card ≡ 0) (n : named.Edition) (en : edition_number n ≡ bits_at card 0 8) where
  abbrev numbers : List ℕ
  numbers = numbers_at (cells n).header card 0

  abbrev cs : List Cell
  cs = (cells n).joint

  is : card_of card ≡ card_with (cells n) card (at 1 numbers) (at 2 numbers)
  is = rw en (card_is card)

  rate_small : at 3 numbers ≤ 4000
  rate_small =
      let most : at 3 numbers ≤ (cells n).fastest = rw (is, ← en) at (accepted card z).has.most_rate in
      omega (arith, most, fastest_4000 n)

  pub rate_fits : {b : HeaderBits} → b ≡ header_bits numbers → T (in_float binary32 (pos b.rate))
  unfolding header_bits in_float
  rate_fits e = rw (e, le-leb (at 3 numbers) 16777216 (omega (arith, rate_small))) tt

  -- the bytes of its header
  abbrev bytes : ℕ
  bytes = (sizes_of n).header_bytes

  place : 8 * bytes ≡ width_of (cells n).header
  place = header_width n

  pub enough : bytes + 94 * at 1 numbers + (sizes_of n).joint_bytes * at 2 numbers ≤ length card
  enough =
      let size = (sizes_of n).joint_bytes in
      let long : width_of (cells n).header + 752 * at 1 numbers + 8 * size * at 2 numbers ≤ 8 * length card = rw (is, ← en, joint_width n) at (accepted card z).enough in
      omega (arith, long, place, mul_assoc 8 size (at 2 numbers))

  pub header_fits : (sizes_of n).header_bytes ≤ length card
  header_fits = omega (arith, enough)

  pub header_read : {b : HeaderBits} {gravity warm : Float} → b ≡ header_bits numbers → gravity ≡ float_at card (bytes - 8) → warm ≡ float_at card (bytes - 4)
      → ◌≡◌ {A = Header}
      (record { bodies = b.bodies; joints = b.joints; dt = f1 ⊘ of_int binary32 (pos b.rate); gravity = gravity; warm_coefficient = warm })
      (header_of (card_of card))
  unfolding header_of header_bits
  header_read e g w = rw (is, e, g, w, (header_floats n card).0, (header_floats n card).1) refl

  -- ---- by the counts of its header

  module _ (h : Header) (e : h ≡ header_of (card_of card)) where
    count : (h.bodies ≡ at 1 numbers) × (h.joints ≡ at 2 numbers)
    unfolding header_of
    count = rw (e, is) (refl, refl)

    pub fits : (sizes_of n).header_bytes + 94 * h.bodies + (sizes_of n).joint_bytes * h.joints ≤ length card
    fits = rw (count.0, count.1) enough

    pub bodies_fit : (sizes_of n).header_bytes + 94 * h.bodies ≤ length card
    bodies_fit = omega (arith, fits)

    pub bodies_are : (card_of card).bodies ≡ records_at body card (8 * bytes) h.bodies
    bodies_are = rw (count.0, is, place) refl

    pub joints_are : (card_of card).joints ≡ records_at cs card (8 * (bytes + 94 * h.bodies)) h.joints
    joints_are =
        let behind : 8 * (bytes + 94 * at 1 numbers) ≡ width_of (cells n).header + 752 * at 1 numbers = omega (arith, place) in
        rw (count.0, count.1, behind, is) refl

    -- a joint has a kind, ties bodies of the card, and has angle limits within reach
    pub joint_fits : (j : ℕ) → j < h.joints
        → let ns = numbers_at cs card (8 * (bytes + 94 * h.bodies) + j * width_of cs) in
        (at 0 ns < 5) × (at 1 ns < h.bodies) × (at 2 ns < h.bodies) × (T (kind_of ns).angles → Narrow 28 ns × Narrow 30 ns)
    joint_fits j r =
        let p = 8 * (bytes + 94 * h.bodies) in
        let within : j < length (card_of card).joints = rw (joints_are, records_length cs card p h.joints) r in
        let has = (accepted card z).has.joint j within in
        let here : get_or (card_of card).joints j [] ≡ numbers_at cs card (p + j * width_of cs) = rw joints_are (record_at cs card p h.joints j r) in
        let many : length (card_of card).bodies ≡ h.bodies = rw bodies_are (records_length body card (8 * bytes) h.bodies) in
        (rw here at has.kind, rw (here, many) at has.body1, rw (here, many) at has.body2, rw here at has.angles)

pub header_long : (n : named.Edition) → 12 ≤ (sizes_of n).header_bytes
header_long n = (header_bytes_lem n).0

-- no edition has more of either
pub counts_within : (card : List ℕ) → check_of card ≡ 0 → {h : Header} → h ≡ header_of (card_of card) → (h.bodies ≤ 200) × (h.joints ≤ 200)
unfolding header_of
counts_within card z e = rw e (at_most_200 card z)
