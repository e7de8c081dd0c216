-- A slice of which a part was lent and written.
use Prim.Native.Nat.{ℕ, ◌+◌, ◌*◌, ◌-◌, ◌≤◌, ◌<◌}
use native.Mathlib.Nat.{zero-add}
use native.Mathlib.Omega.{arith}
use mathlib.Core.Path.{◌≡◌, refl, sym, ap, ◌∙◌}
use mathlib.Core.List.{List, [], ◌∷◌, ◌++◌, map, map-append, append-nil, append_assoc}
use lib.ListN.{length, get_or, set, take, drop, length-append, length-take, length-drop, drop_of_length-le}
use lib.Seq.{sets, sets-eq, take_at, drop_at, drop-drop}
use Rattle.numbers.specs.Lists.{concat}
use Rattle.numbers.proofs.Rows.{concat_last, pieces_length}
use Rattle.card.specs.Format.{Cell, width_of, numbers_at, records_at}
use Rattle.card.specs.Card.{body, Edition, edition_of}
use Rattle.card.specs.Parts.{edition_number, sizes_of, card_with}
use Rattle.card.specs.declared.edition.Edition as named
use Rattle.card.specs.declared.edition.EditionSizes.{EditionSizes}
use Rattle.card.proofs.Cut.{numbers_part, records_length, last_record}
use Rattle.card.proofs.Editions.{header_width}
use Rattle.convert.specs.Convert.{record_bytes, card_bytes, with_edition}
use Rattle.convert.specs.Parts.{rows_bytes}
use Rattle.convert.proofs.Packing.{record_length, records_bytes}
use Rattle.convert.proofs.Editions.{Row, joint_width_is}

-- a list from its element k on, all of it dropped
pub none_behind : {A : Type 0} (l : List A) (k : ℕ) → drop (length l - k) (drop k l) ≡ []
none_behind l k = drop_of_length-le (drop k l) {i = length l - k} (rw (length-drop k l) (omega arith))

-- the first elements written anew
pub overwritten : {A : Type 0} (front rest new : List A) → length new ≡ length front → sets (front ++ rest) 0 new ≡ new ++ rest
overwritten front rest new e =
    sets-eq new (front ++ rest) 0 (rw length-append (omega arith)) ∙ rw (zero-add (length new), drop_at front rest (length new) (sym e))

-- ---- joints, each written behind those before it

-- the first i of those that begin at a byte of the card
abbrev pub joints_made : ℕ → ℕ → List ℕ → ℕ → ℕ → List ℕ
joints_made from to card at i = concat (map (record_bytes (edition_of to).joint) (records_at (edition_of from).joint card (8 * at) i))

module _ {from to : ℕ} (a : Row from) (b : Row to) (card : List ℕ) (at : ℕ) where
  abbrev cs : List Cell
  cs = (edition_of from).joint

  abbrev made : ℕ → List ℕ
  made i = joints_made from to card at i

  made_length : (i : ℕ) → length (made i) ≡ 123 * i
  made_length i =
      pieces_length (record_bytes (edition_of to).joint) 123 (record_length (edition_of to).joint 123 (joint_width_is b)) (records_at cs card (8 * at) i) ∙ rw (records_length cs card (8 * at) i)

  pub next_made : (i n m : ℕ) (l : List ℕ) {out new : List ℕ} → n ≡ 123 → m ≡ 123 → out ≡ made i ++ drop (123 * i) l
      → new ≡ record_bytes (edition_of to).joint (numbers_at cs (take n (drop (at + 123 * i) card)) 0)
      → take (123 * i) out ++ (new ++ drop m (drop (123 * i) out)) ≡ made (i + 1) ++ drop (123 * (i + 1)) l
  next_made i n m l {out} {new} en em eo ew =
      let k = 123 * i in
      let g = record_bytes (edition_of to).joint in
      let place : 8 * at + i * width_of cs ≡ 8 * (at + k) = rw (joint_width_is a) (omega arith) in
      let r = numbers_at cs card (8 * (at + k)) in
      let here : new ≡ g r = ew ∙ ap g (numbers_part card (at + k) n cs (omega (arith, joint_width_is a))) in
      let next : made (i + 1) ≡ made i ++ g r =
      rw (last_record cs card (8 * at) i, place, map-append g (records_at cs card (8 * at) i) (r ∷ [])) (concat_last (map g (records_at cs card (8 * at) i)) (g r)) in
      let end : k + m ≡ 123 * (i + 1) = omega arith in
      let behind : drop m (drop k out) ≡ drop (123 * (i + 1)) l = rw (eo, drop_at (made i) (drop k l) k (made_length i), drop-drop m k l, end) in
      rw (behind, here, next, eo, take_at (made i) (drop k l) k (made_length i)) (sym (append_assoc (made i) (g r) (drop (123 * (i + 1)) l)))

-- ---- bodies, which are copied, and joints

pub rows_written : (from to : Edition) (card : List ℕ) → ((i : ℕ) → get_or card i 0 < 256) → (at bodies joints : ℕ) (out : List ℕ) {bytes new : List ℕ}
    → at + 94 * bodies ≤ length card → 94 * bodies ≤ length out → let copied = bytes ++ drop (94 * bodies) out in bytes ≡ take (at + 94 * bodies - at) (drop at card)
    → new ≡ concat (map (record_bytes to.joint) (records_at from.joint card (8 * (at + 94 * bodies)) joints))
    → take (94 * bodies) copied ++ (new ++ drop (length copied - 94 * bodies) (drop (94 * bodies) copied)) ≡ rows_bytes from to card (8 * at) bodies joints
unfolding rows_bytes
rows_written from to card small at bodies joints out {bytes} {new} long room ec en =
    let n = 94 * bodies in
    let copied = bytes ++ drop n out in
    let some : at + n - at ≡ n = omega arith in
    let rows = records_bytes card small body 94 at bodies refl long in
    let part = take n (drop at card) in
    let size : length part ≡ n = rw (length-take, length-drop) (omega arith) in
    let place : 8 * at + 752 * bodies ≡ 8 * (at + n) = omega arith in
    let front : take n copied ≡ part = rw (ec, some) (take_at part (drop n out) n size) in
    rw (front, none_behind copied n, append-nil new, en, rows, place)

-- ---- a card

module _ (e t : named.Edition) (card : List ℕ) (bodies joints : ℕ) {r w : EditionSizes} (er : r ≡ sizes_of e) (ew : w ≡ sizes_of t) where
  abbrev from : ℕ
  from = edition_number e

  abbrev to : ℕ
  to = edition_number t

  pub card_written : (out : List ℕ) {h rows : List ℕ} → h ≡ record_bytes (edition_of to).header (set (numbers_at (edition_of from).header (take r.header_bytes card) 0) 0 to)
      → rows ≡ rows_bytes (edition_of from) (edition_of to) card (8 * r.header_bytes) bodies joints
      → let o = h ++ drop w.header_bytes out in
      take w.header_bytes o ++ (rows ++ drop (length o - w.header_bytes) (drop w.header_bytes o)) ≡ card_bytes (edition_of to) (with_edition to (card_with (edition_of from) card bodies joints))
  unfolding rows_bytes card_bytes
  card_written out {h} {rows} eh es =
      let n = w.header_bytes in
      let o = h ++ drop n out in
      let c = card_with (edition_of from) card bodies joints in
      let read : 8 * r.header_bytes ≡ width_of (edition_of from).header = rw er (header_width e) in
      let written : width_of (edition_of to).header ≡ 8 * n = rw ew (sym (header_width t)) in
      let same : numbers_at (edition_of from).header (take r.header_bytes card) 0 ≡ numbers_at (edition_of from).header card 0 =
      numbers_part card 0 r.header_bytes (edition_of from).header (omega (arith, read)) in
      let size : length h ≡ n = rw eh (record_length (edition_of to).header n written (set (numbers_at (edition_of from).header (take r.header_bytes card) 0) 0 to)) in
      rw (take_at h (drop n out) n size, none_behind o n, append-nil rows, es, eh, same, read)
      (sym (append_assoc (record_bytes (edition_of to).header (set c.header 0 to)) (concat (map (record_bytes body) c.bodies)) (concat (map (record_bytes (edition_of to).joint) c.joints))))
