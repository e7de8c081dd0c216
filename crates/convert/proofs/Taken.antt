-- A card that is taken to another edition is accepted there, and is the same card when it is taken back.
use Prim.Native.Nat.{ℕ, ◌+◌, ◌*◌, ◌<◌}
use native.Mathlib.Omega.{arith}
use mathlib.Core.Path.{◌≡◌, refl, sym, ap, ◌∙◌}
use mathlib.Core.Bool.{Bool, false, not, ◌||◌, ◌&&◌}
use mathlib.Core.List.{List, [], ◌∷◌}
use lib.ListN.{length, get_or, take, drop, length-drop, take-append-drop}
use lib.Seq.{take-add, take_all}
use lib.Dec.{ltb, eqb}
use borrow.Author.Tests.{le-ltb, eq-eqb}
use Rattle.card.specs.Format.{Range}
use Rattle.card.specs.Format.{bits_at, Cell, width_of, numbers_at, any_cell, unused_set, out_of, out_of_range}
use Rattle.card.specs.Card.{at, body, editions, edition_at, Card, card_of}
use Rattle.card.specs.Checks.{any, misfit, first_of, record_checks, card_checks, check_of}
use Rattle.card.proofs.Bools.{or_left}
use Rattle.card.proofs.Checking.{passes, first, ends, passed, passed_behind}
use Rattle.convert.specs.Convert.{card_bytes, with_edition, too_large}
use Rattle.convert.proofs.Packing.{record_bytes_lem, records_bytes}
use Rattle.convert.proofs.Editions.{Row, edition_in}
use Rattle.convert.proofs.Cards.{edition_read, row_read, card_read}
use Rattle.convert.proofs.Numbers.{own, row_is, card_is, has, own_length, taken_length, within, fitting}

-- ---- cells that differ in their widths alone are tested alike

data Alike : List Cell → List Cell → Type 0 where
  same : {cs : List Cell} → Alike cs cs
  wider : {w v : ℕ} {used : List ℕ → Bool} {range : Range} {cs ds : List Cell} → Alike cs ds
      → Alike (record { width = w; used = used; range = range } ∷ cs) (record { width = v; used = used; range = range } ∷ ds)

any_alike : (p : (List ℕ → Bool) → Range → ℕ → Bool) {cs ds : List Cell} (ns : List ℕ) → Alike cs ds
    → any_cell (λ c n. p c.used c.range n) cs ns ≡ any_cell (λ c n. p c.used c.range n) ds ns
unfolding any_cell
any_alike p ns same = refl
any_alike p [] (wider a) = refl
any_alike p (n ∷ ns) (wider {used = used} {range = range} a) = ap (λ b. p used range n || b) (any_alike p ns a)

joints_alike : {from to : ℕ} (a : Row from) (b : Row to) → Alike (edition_in a).joint (edition_in b).joint
joints_alike a b = wider (wider (wider (wider (wider (wider (wider same))))))

any_same : (p q : List ℕ → Bool) (l : List (List ℕ)) → ((r : List ℕ) → p r ≡ q r) → any p l ≡ any q l
unfolding any
any_same p q [] e = refl
any_same p q (r ∷ l) e = rw (e r, any_same p q l e)

-- ---- the card

module _ {from to : ℕ} (a : Row from) (b : Row to) (card : List ℕ) (is : bits_at card 0 8 ≡ from) (z : check_of card ≡ 0)
    (few : too_large (edition_in b) (own a card is) ≡ false) where
  abbrev old : Card
  old = own a card is

  abbrev new : List ℕ
  new = card_bytes (edition_in b) (with_edition to old)

  same_records : record_checks (edition_in b) (with_edition to old) ≡ record_checks (edition_in a) old
  unfolding any_cell numbers_at out_of
  same_records =
      let alike = joints_alike a b in
      rw (
        any_same (λ j. unused_set (edition_in b).joint j || misfit j) (λ j. unused_set (edition_in a).joint j || misfit j) old.joints
            (λ j. ap (λ t. t || misfit j) (sym (any_alike (λ used range n. not (used j) && not (eqb n 0)) j alike))),
        any_same (out_of_range (edition_in b).joint) (out_of_range (edition_in a).joint) old.joints (λ j. sym (any_alike (λ used range n. out_of range n) j alike)),
      )

  records_passed : first_of (record_checks (edition_in a) old) ≡ 0
  unfolding check_of
  records_passed = rw (row_is a card is, card_is a card is) at (passed_behind (card_checks (edition_at card) card (card_of card)) tt z 5)

  some_bodies : eqb (at 1 old.header) 0 ≡ false
  unfolding check_of
  some_bodies =
      let bodies = at 1 old.header in
      let counts : (eqb bodies 0 || ltb a.most bodies || ltb a.most (at 2 old.header)) ≡ false =
      rw (row_is a card is, card_is a card is) at (passed (card_checks (edition_at card) card (card_of card)) tt z 3) in
      or_left (eqb bodies 0) (ltb a.most bodies) (or_left (eqb bodies 0 || ltb a.most bodies) (ltb a.most (at 2 old.header)) counts)

  all_passed : first_of (card_checks (edition_in b) new (with_edition to old)) ≡ 0
  unfolding numbers_at
  all_passed =
      let bodies = at 1 old.header in
      let joints = at 2 old.header in
      let rate = at 3 old.header in
      let inside = within a card is z b few in
      let read = edition_read b (with_edition to old) (fitting a card is z b few) in
      let size = width_of (edition_in b).header + width_of body * bodies + width_of (edition_in b).joint * joints in
      let long : 8 * length new ≡ size = rw (taken_length a card is z b, b.whole_header, b.whole_joint) (omega arith) in
      let r1 : ltb (length new) 12 ≡ false = le-ltb (length new) 12 (omega (arith, taken_length a card is z b, b.shortest)) in
      let r2 : (eqb (bits_at new 0 8) 0 || ltb (length editions) (bits_at new 0 8)) ≡ false =
      rw read b.known in
      let r3 : (eqb bodies 0 || ltb b.most bodies || ltb b.most joints) ≡ false =
      rw (some_bodies, le-ltb b.most bodies inside.0, le-ltb b.most joints inside.1) in
      let r4 : (ltb rate 16 || ltb b.fastest rate) ≡ false = rw (le-ltb rate 16 (has a card is z).least_rate, le-ltb b.fastest rate inside.2) in
      let r5 : not (eqb (8 * length new) size) ≡ false = rw (eq-eqb (8 * length new) size long) in
      let rest : 0 ≡ first_of (record_checks (edition_in b) (with_edition to old)) = sym (ap first_of same_records ∙ records_passed) in
      sym (first (passes r1 (passes r2 (passes r3 (passes r4 (passes r5 (ends (record_checks (edition_in b) (with_edition to old)) rest)))))))

  pub taken : card_of new ≡ with_edition to old
  taken = card_read b (with_edition to old) (fitting a card is z b few)

  pub taken_accepted : check_of new ≡ 0
  unfolding check_of
  taken_accepted = rw (row_read b (with_edition to old) (fitting a card is z b few), taken) all_passed

  same_edition : with_edition from (with_edition to old) ≡ old
  unfolding numbers_at
  same_edition =
      ap (λ n. let c : Card = record { header = n ∷ drop 1 old.header; bodies = old.bodies; joints = old.joints } in c) (sym is)

  same_bytes : ((i : ℕ) → get_or card i 0 < 256) → card_bytes (edition_in a) old ≡ card
  unfolding card_bytes
  same_bytes small =
      let n = a.bytes in
      let bodies = at 1 old.header in
      let joints = at 2 old.header in
      let place : 8 * n + width_of body * bodies ≡ 8 * (n + 94 * bodies) = omega arith in
      let h = record_bytes_lem card small (edition_in a).header n 0 a.whole_header (omega (arith, own_length a card is z)) in
      let bs = records_bytes card small body 94 n bodies refl (omega (arith, own_length a card is z)) in
      let js = records_bytes card small (edition_in a).joint 123 (n + 94 * bodies) joints a.whole_joint (omega (arith, own_length a card is z)) in
      let all : take (123 * joints) (drop (n + 94 * bodies) card) ≡ drop (n + 94 * bodies) card = take_all (123 * joints) (drop (n + 94 * bodies) card) (rw length-drop (omega (arith, own_length a card is z))) in
      rw (h, a.whole_header, place, bs, js, all, ← (take-add n (94 * bodies) card)) (take-append-drop (n + 94 * bodies) card)

  pub taken_back : ((i : ℕ) → get_or card i 0 < 256) → card_bytes (edition_in a) (with_edition from (with_edition to old)) ≡ card
  taken_back small = ap (card_bytes (edition_in a)) same_edition ∙ same_bytes small
