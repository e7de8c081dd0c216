-- A card packed and read again.
use Prim.Native.Nat.{ℕ, ◌+◌, ◌*◌, ◌<◌}
use native.Mathlib.Omega.{arith}
use mathlib.Core.Path.{◌≡◌, refl, sym, ap, ◌∙◌}
use mathlib.Core.List.{List, [], ◌++◌, map, append_assoc, append-nil}
use lib.ListN.{length, get_or, length-append}
use lib.Seq.{take_at, drop_at}
use Rattle.numbers.specs.Lists.{concat}
use Rattle.numbers.proofs.Rows.{pieces_length}
use Rattle.card.specs.Format.{bits_at, width_of, numbers_at, records_at}
use Rattle.card.specs.Card.{at, body, edition_at, Card, card_of}
use Rattle.convert.specs.Convert.{record_bytes, card_bytes}
use Rattle.convert.proofs.Packing.{Fits, record_length, record_read, records_read}
use Rattle.convert.proofs.Editions.{Row, edition_in}

module _ {n : ℕ} (r : Row n) where
  -- the numbers of a card of the edition, each of its cell's width
  pub record Fitting (c : Card) : Type 0 where
    pub edition : at 0 c.header ≡ n
    pub header : Fits (edition_in r).header c.header
    pub bodies : length c.bodies ≡ at 1 c.header
    pub joints : length c.joints ≡ at 2 c.header
    pub body : (i : ℕ) → i < length c.bodies → Fits body (get_or c.bodies i [])
    pub joint : (i : ℕ) → i < length c.joints → Fits (edition_in r).joint (get_or c.joints i [])

  module _ (c : Card) where
    abbrev first : List ℕ
    first = record_bytes (edition_in r).header c.header

    abbrev second : List ℕ
    second = concat (map (record_bytes body) c.bodies)

    abbrev third : List ℕ
    third = concat (map (record_bytes (edition_in r).joint) c.joints)

    first_length : length first ≡ r.bytes
    first_length = record_length (edition_in r).header r.bytes r.whole_header c.header

    second_length : length second ≡ 94 * length c.bodies
    second_length = pieces_length (record_bytes body) 94 (record_length body 94 refl) c.bodies

    third_length : length third ≡ 123 * length c.joints
    third_length = pieces_length (record_bytes (edition_in r).joint) 123 (record_length (edition_in r).joint 123 r.whole_joint) c.joints

    pub card_length : length (card_bytes (edition_in r) c) ≡ r.bytes + 94 * length c.bodies + 123 * length c.joints
    unfolding card_bytes
    card_length = rw (length-append (first ++ second) third, length-append first second, first_length, second_length, third_length)

    module _ (f : Fitting c) where
      abbrev new : List ℕ
      new = card_bytes (edition_in r) c

      header_read : numbers_at (edition_in r).header new 0 ≡ c.header
      unfolding card_bytes
      header_read =
          record_read (edition_in r).header r.bytes r.whole_header new 0 c.header f.header
          (rw (append_assoc first second third) (take_at first (second ++ third) r.bytes first_length))

      bodies_read : records_at body new (8 * r.bytes) (length c.bodies) ≡ c.bodies
      unfolding card_bytes
      bodies_read =
          records_read body 94 refl new r.bytes c.bodies third f.body
          (rw (append_assoc first second third) (drop_at first (second ++ third) r.bytes first_length))

      joints_read : records_at (edition_in r).joint new (8 * (r.bytes + 94 * length c.bodies)) (length c.joints) ≡ c.joints
      unfolding card_bytes
      joints_read =
          records_read (edition_in r).joint 123 r.whole_joint new (r.bytes + 94 * length c.bodies) c.joints [] f.joint
          (drop_at (first ++ second) third (r.bytes + 94 * length c.bodies) (rw (length-append first second, first_length, second_length)) ∙ sym (append-nil third))

      pub edition_read : bits_at new 0 8 ≡ n
      unfolding numbers_at
      edition_read = ap (at 0) header_read ∙ f.edition

      pub row_read : edition_at new ≡ edition_in r
      row_read = rw edition_read r.listed

      pub card_read : card_of new ≡ c
      unfolding card_of
      card_read =
          let place : 8 * r.bytes + width_of body * length c.bodies ≡ 8 * (r.bytes + 94 * length c.bodies) = omega arith in
          rw (row_read, header_read, ← f.bodies, ← f.joints, r.whole_header, place, bodies_read, joints_read)
