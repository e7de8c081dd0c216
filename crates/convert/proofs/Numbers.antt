-- The numbers of a card that is accepted and not too large for another edition fit that edition's cells.
use Prim.Native.Nat.{ℕ, ◌+◌, ◌*◌, ◌≤◌, ◌<◌}
use native.Mathlib.Omega.{arith}
use mathlib.Core.Path.{◌≡◌, refl, ◌∙◌}
use mathlib.Core.Bool.{false, not, ◌||◌}
use mathlib.Core.List.{List, []}
use lib.ListN.{length, get_or}
use lib.Dec.{ltb, eqb}
use lib.Pow.{pow_pos}
use borrow.Author.Tests.{ltb-false, eqb-true, not-false}
use Rattle.card.specs.Format.{bits_at, Cell, width_of, numbers_at, records_at, any_cell, unused_set}
use Rattle.card.specs.Card.{at, header, body, joint, edition_at, Card, card_of}
use Rattle.card.specs.Checks.{any, misfit, card_checks, check_of}
use Rattle.card.specs.Parts.{card_with}
use Rattle.card.specs.Accepted.{AcceptedCard}
use Rattle.card.proofs.Bools.{or_left, or_right}
use Rattle.card.proofs.Cut.{records_length, record_at}
use Rattle.card.proofs.Checking.{passed}
use Rattle.card.proofs.Accepted.{any_not, accepted}
use Rattle.convert.specs.Convert.{card_bytes, with_edition, too_large}
use Rattle.convert.proofs.Packing.{Fits, read_fits}
use Rattle.convert.proofs.Editions.{Row, edition_in}
use Rattle.convert.proofs.Cards.{Fitting, card_length}

-- ---- a bit without use is zero

zero_of_header : (counts rate zeros : ℕ) (l : List ℕ) → let ns = numbers_at (header counts rate zeros) l 0 in unused_set (header counts rate zeros) ns ≡ false → at 4 ns ≡ 0
unfolding any_cell numbers_at
zero_of_header counts rate zeros l e = let n = at 4 (numbers_at (header counts rate zeros) l 0) in eqb-true n 0 (not-false (eqb n 0) (or_left (not (eqb n 0)) _ e))

zero_of_joint : (numbers spare : ℕ) (l : List ℕ) (p : ℕ) → let ns = numbers_at (joint numbers spare []) l p in unused_set (joint numbers spare []) ns ≡ false → at 6 ns ≡ 0
unfolding any_cell numbers_at
zero_of_joint numbers spare l p e = let n = at 6 (numbers_at (joint numbers spare []) l p) in eqb-true n 0 (not-false (eqb n 0) (or_left (not (eqb n 0)) _ e))

-- a joint's numbers in another edition's cells
joint_room : {from to : ℕ} (a : Row from) (b : Row to) (l : List ℕ) (p : ℕ) → let ns = numbers_at (edition_in a).joint l p in at 1 ns < b.most → at 2 ns < b.most
    → unused_set (edition_in a).joint ns ≡ false → Fits (edition_in b).joint ns
unfolding numbers_at
joint_room a b l p h g e =
    let f = read_fits (edition_in a).joint l p in
    (f.0, (omega (arith, h, b.numbered), (omega (arith, g, b.numbered), (f.1.1.1.0, (f.1.1.1.1.0, (f.1.1.1.1.1.0, (rw (zero_of_joint a.numbers a.spare l p e) (pow_pos b.spare), f.1.1.1.1.1.1.1)))))))

rows_fit : (cs : List Cell) (l : List ℕ) (p m i : ℕ) → i < length (records_at cs l p m) → Fits cs (get_or (records_at cs l p m) i [])
rows_fit cs l p m i h = let within : i < m = rw (records_length cs l p m) at h in rw (record_at cs l p m i within) (read_fits cs l (p + i * width_of cs))

-- ---- a card of an edition

module _ {from : ℕ} (a : Row from) (card : List ℕ) (is : bits_at card 0 8 ≡ from) where
  abbrev pub own : Card
  own = let h = numbers_at (edition_in a).header card 0 in card_with (edition_in a) card (at 1 h) (at 2 h)

  pub row_is : edition_at card ≡ edition_in a
  row_is = rw is a.listed

  pub card_is : card_of card ≡ own
  unfolding card_of
  card_is = rw row_is refl

  module _ (z : check_of card ≡ 0) where
    pub has : AcceptedCard (edition_in a) own
    has = rw (row_is, card_is) at (accepted card z).has

    unused : (unused_set (edition_in a).header own.header || any (unused_set body) own.bodies || any (λ j. unused_set (edition_in a).joint j || misfit j) own.joints) ≡ false
    unfolding check_of
    unused = rw (row_is, card_is) at (passed (card_checks (edition_at card) card (card_of card)) tt z 6)

    header_zero : at 4 own.header ≡ 0
    header_zero =
        zero_of_header a.counts a.rate a.zeros card
        (or_left (unused_set (edition_in a).header own.header) _ (or_left (unused_set (edition_in a).header own.header || any (unused_set body) own.bodies) _ unused))

    pub own_length : length card ≡ a.bytes + 94 * at 1 own.header + 123 * at 2 own.header
    unfolding check_of
    own_length =
        let size = width_of (edition_in a).header + width_of body * at 1 own.header + width_of (edition_in a).joint * at 2 own.header in
        let five : not (eqb (8 * length card) size) ≡ false = rw (row_is, card_is) at (passed (card_checks (edition_at card) card (card_of card)) tt z 5) in
        let whole : size ≡ 8 * a.bytes + 752 * at 1 own.header + 984 * at 2 own.header = rw (a.whole_header, a.whole_joint) in
        omega (arith, eqb-true (8 * length card) size (not-false (eqb (8 * length card) size) five))

    pub taken_length : {to : ℕ} (b : Row to) → length (card_bytes (edition_in b) (with_edition to own)) ≡ b.bytes + 94 * at 1 own.header + 123 * at 2 own.header
    taken_length {to} b = card_length b (with_edition to own) ∙ rw (has.bodies, has.joints)

    module _ {to : ℕ} (b : Row to) (few : too_large (edition_in b) own ≡ false) where
      pub within : (at 1 own.header ≤ b.most) × (at 2 own.header ≤ b.most) × (at 3 own.header ≤ b.fastest)
      within =
          let bodies = ltb b.most (at 1 own.header) in
          let joints = ltb b.most (at 2 own.header) in
          let counts = or_left (bodies || joints) (ltb b.fastest (at 3 own.header)) few in
          (ltb-false _ _ (or_left bodies joints counts), ltb-false _ _ (or_right bodies joints counts), ltb-false _ _ (or_right (bodies || joints) _ few))

      header_fits : Fits (edition_in b).header (with_edition to own).header
      unfolding numbers_at
      header_fits =
          let f = read_fits (edition_in a).header card 0 in
          (b.byte, (omega (arith, within.0, b.counted), (omega (arith, within.1, b.counted), (omega (arith, within.2, b.rated), (rw header_zero (pow_pos b.zeros), f.1.1.1.1.1)))))

      joint_fits : (i : ℕ) → i < length own.joints → Fits (edition_in b).joint (get_or own.joints i [])
      joint_fits i h =
          let p = width_of (edition_in a).header + width_of body * at 1 own.header in
          let inside : i < at 2 own.header = rw (records_length (edition_in a).joint card p (at 2 own.header)) at h in
          let here = record_at (edition_in a).joint card p (at 2 own.header) i inside in
          let j = has.joint i h in
          let bodies : length own.bodies ≤ b.most = rw (records_length body card (width_of (edition_in a).header) (at 1 own.header)) within.0 in
          let ns = get_or own.joints i [] in
          let fit = any_not (λ r. unused_set (edition_in a).joint r || misfit r) own.joints i h (or_right (unused_set (edition_in a).header own.header || any (unused_set body) own.bodies) _ unused) in
          let clean = or_left (unused_set (edition_in a).joint ns) (misfit ns) fit in
          rw here (joint_room a b card (p + i * width_of (edition_in a).joint) (omega (arith, (rw here at j.body1))) (omega (arith, (rw here at j.body2))) (rw here at clean))

      pub fitting : Fitting b (with_edition to own)
      unfolding numbers_at
      fitting =
          record {
            edition = refl;
            header = header_fits;
            bodies = records_length body card _ _;
            joints = records_length (edition_in a).joint card _ _;
            body = rows_fit body card _ _;
            joint = joint_fits;
          }
