-- Records of the card: a joint's floats by its numbers, and a row of records, decoded one by one.
use Prim.Native.Nat.{ℕ, ◌+◌, ◌*◌, ◌≤◌, ◌<◌}
use native.Mathlib.Nat.{zero-add}
use mathlib.Core.Path.{◌≡◌, refl, sym, ap, ◌∙◌}
use mathlib.Core.List.{List, [], ◌∷◌, ◌++◌, map}
use lib.ListN.{length, get_or, set, take, drop, length-map, length-append, get_or-map}
use Rattle.std.specs.Prelude.{Option, None, Some}
use Rattle.std.specs.Borrow.{Bor}
use Rattle.std.specs.List.{enumerate_from}
use Rattle.std.specs.Iterator.{Yields}
use Rattle.std.specs.Iterator.Adapters.{enumerate_source, enumerate_count, enumerate_steps}
use Rattle.std.specs.Slice.Iter.{chunks_exact_rest, chunks_exact_size, chunks_exact_steps}
use Rattle.std.specs.declared.iter.Enumerate.{Enumerate}
use Rattle.std.specs.declared.slice.ChunksExact.{ChunksExact}
use Rattle.std.proofs.lemmas.List.{get_or_default}
use Rattle.std.proofs.lemmas.List.FromFn.{length-enumerate_from, get_or-enumerate_from}
use Rattle.std.proofs.lemmas.Iterator.{YieldsList}
use Rattle.std.proofs.lemmas.Iterator.Consumers.{YieldsList-at, YieldsList-from_enumerate, YieldsList-turn, YieldsList-end}
use Rattle.scalar.specs.Arith.{f32}
use Rattle.numbers.specs.Lists.{each, after}
use Rattle.numbers.proofs.Loops.{after_turn}
use Rattle.numbers.proofs.Rows.{each_is, fill, fill_each}
use Rattle.card.specs.Format.{Cell, width_of, numbers_at, records_at}
use Rattle.card.specs.Parts.{float_at}
use Rattle.card.proofs.Chunks.{chunks}
use Rattle.card.proofs.Cut.{records_length, record_at}
use Rattle.card.proofs.Editions.{JointOf, joint_numbers_lem}
use Rattle.loader.specs.Parts.{joint_floats}

pub joint_floats_lem : (cs : List Cell) → JointOf cs → (bytes : List ℕ) → joint_floats bytes ≡ map f32 (take 30 (drop 7 (numbers_at cs bytes 0)))
unfolding each float_at numbers_at
joint_floats_lem cs J bytes =
    joint_numbers_lem bytes 0 cs J (λ ns. joint_floats bytes ≡ map f32 (take 30 (drop 7 ns))) (λ kind body1 body2 first second motor zero. refl)

module _ {A : Type 0} (cs : List Cell) (g : List ℕ → A) (l : List ℕ) (p : ℕ) where
  abbrev pub record_of : ℕ → A
  record_of i = g (numbers_at cs l (p + i * width_of cs))

  -- of n
  pub row_at : (n i : ℕ) → i < n → get_or (map g (records_at cs l p n)) i (g []) ≡ record_of i
  row_at n i h = get_or-map g (records_at cs l p n) i [] ∙ ap g (record_at cs l p n i h)

  pub row_length : (n : ℕ) → length (map g (records_at cs l p n)) ≡ n
  row_length n = length-map (records_at cs l p n) g ∙ records_length cs l p n

-- ---- the records of a row, numbered, as the chunks of its bytes

abbrev Items : Type 0
Items = Enumerate (ChunksExact ℕ)

-- a `for` over so many chunks of n bytes, from byte `at` on, which began at i and is at t
pub record Row (cs : List Cell) (l : List ℕ) (at count n : ℕ) (i t : Items) : Type 0 where
  pub items : YieldsList (enumerate_steps chunks_exact_steps) (λ p. (p.0, numbers_at cs p.1.now 0)) i (enumerate_from 0 (records_at cs l (8 * at) count))
  pub size : chunks_exact_size (enumerate_source t) ≡ n

pub row : (cs : List Cell) (l : List ℕ) (at count n : ℕ) → width_of cs ≡ 8 * n → 0 < n → at + n * count ≤ length l → {m : ℕ} {p : ChunksExact ℕ} {s i : Items} → chunks_exact_size p ≡ n → chunks_exact_rest p ≡ take m (drop at l) → m ≡ n * count
    → enumerate_source s ≡ p → enumerate_count s ≡ 0 → i ≡ s → Row cs l at count n i i
row cs l at count n whole some fits size rest e source zero is =
    record {
      items = YieldsList-at is (YieldsList-from_enumerate (YieldsList-at source (chunks cs n whole some l at count fits size rest e)) zero);
      size = ap (λ j. chunks_exact_size (enumerate_source j)) is ∙ ap chunks_exact_size source ∙ size;
    }

module _ {cs : List Cell} {l : List ℕ} {at count n : ℕ} {i t : Items} (row : Row cs l at count n i t) (xs : List (ℕ × Bor (List ℕ))) (u : Items) (by : Yields (enumerate_steps chunks_exact_steps) i xs t) {r : Option (ℕ × Bor (List ℕ))} where
  module _ {x : ℕ × Bor (List ℕ)} (is : r ≡ Some x) (step : enumerate_steps chunks_exact_steps t r u) where
    pub row_next : Row cs l at count n i u × (x.0 ≡ length xs) × (length xs < count) × (numbers_at cs x.1.now 0 ≡ numbers_at cs l (8 * at + length xs * width_of cs)) × (length x.1.now ≡ n)
    row_next =
        let rs = records_at cs l (8 * at) count in
        let turn = YieldsList-turn row.items xs t by r u x is step in
        let inside : length xs < length rs = rw length-enumerate_from at turn.0 in
        let within : length xs < count = rw records_length at inside in
        let d : ℕ × List ℕ = (x.0, numbers_at cs x.1.now 0) in
        let here : d ≡ (0 + length xs, get_or rs (length xs) d.1) = turn.1 ∙ get_or-enumerate_from 0 rs (length xs) d inside in
        let next : enumerate_steps chunks_exact_steps t (Some x) u = rw is at step in (
          record { items = row.items; size = next.0.0 ∙ row.size },
          ap (λ q. q.0) here ∙ zero-add (length xs),
          within,
          ap (λ q. q.1) here ∙ get_or_default rs (length xs) d.1 [] inside ∙ record_at cs l (8 * at) count (length xs) within,
          next.0.1.1 ∙ row.size,
        )

    -- a slice whose places are filled with them
    pub fill_next : {A : Type 0} (g : List ℕ → A) (s : List A) {f : List A} {a : A} → f ≡ after (fill (record_of cs g l (8 * at))) s (length xs) → a ≡ g (numbers_at cs x.1.now 0)
        → set f x.0 a ≡ after (fill (record_of cs g l (8 * at))) s (length (xs ++ (x ∷ [])))
    fill_next g s {f} inv e = rw (length-append, row_next.1) (after_turn (fill (record_of cs g l (8 * at))) s inv (ap (λ y. set f (length xs) y) (e ∙ ap g row_next.3)))

  module _ (is : r ≡ None) (step : enumerate_steps chunks_exact_steps t r u) where
    pub row_end : length xs ≡ count
    row_end = (YieldsList-end row.items xs t by r u is step).1 ∙ length-enumerate_from 0 (records_at cs l (8 * at) count) ∙ records_length cs l (8 * at) count

    pub fill_end : {A : Type 0} (g : List ℕ → A) (s : List A) {f : List A} → f ≡ after (fill (record_of cs g l (8 * at))) s (length xs) → count ≡ length s → f ≡ map g (records_at cs l (8 * at) count)
    fill_end g s inv e =
        let v = record_of cs g l (8 * at) in
        let rs = map g (records_at cs l (8 * at) count) in
        rw row_end at inv ∙ fill_each v s (g []) count (sym e) ∙ each_is v (g []) rs count (row_length cs g l (8 * at) count) (λ j h. sym (row_at cs g l (8 * at) count j h))
