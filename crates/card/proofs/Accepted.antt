-- A card that no check refuses, row by row.
use Prim.Native.Nat.{ℕ, zero, suc, ◌+◌, ◌*◌, ◌≤◌, ◌<◌}
use native.Mathlib.Nat.{le_of_suc-le-suc}
use native.Mathlib.Omega.{arith}
use mathlib.Core.Path.{◌≡◌, refl, sym, subst, ◌∙◌}
use mathlib.Core.Bool.{Bool, true, false, ◌||◌, ◌&&◌, true≢false}
use mathlib.Core.List.{List, [], ◌∷◌}
use mathlib.Core.Logic.{inl}
use lib.ListN.{length, get_or, get_or-eq_default}
use lib.Dec.{T, leb, ltb, eqb}
use lib.Ieee.{Float, binary32, of_bits, of_fields, neg, fits, le}
use lib.Ieee.Bits.{of_bits-fits, is_true}
use lib.Ieee.Fits.{neg-fits, and_r}
use borrow.Author.Tests.{ltb-false, leb-true, leb-false, eqb-true, eqb-false, not-false}
use Rattle.laws.proofs.Place.{Held, le→place, le_real}
use Rattle.laws.proofs.Between.{amid_finite}
use Rattle.scalar.specs.Arith.{f32, f0, f7, largest}
use Rattle.scalar.specs.Scalar.{abs_of, is_finite, outside}
use Rattle.scalar.proofs.Finite.{over_is}
use Rattle.card.specs.Format.{Range}
use Rattle.card.specs.Format.{Any, Bounded, NotNegative, Cap}
use Rattle.card.specs.Format.{bits_at, bound, Cell, width_of, numbers_at, records_at, any_cell, unused_set, out_of, out_of_range}
use Rattle.card.specs.Card.{at, body, no_kind, kinds, kind_at, kind_of, editions, edition_at, card_of, float}
use Rattle.card.specs.Checks.{any, misfit, dominant, wide, too_wide, anchored, wrong_pair, card_checks, check_of}
use Rattle.card.specs.Accepted.{Real, In, Ranged, Narrow, Accepted}
use Rattle.card.proofs.Bools.{both, or_left, or_right}
use Rattle.card.proofs.Cut.{records_length, record_at}
use Rattle.card.proofs.Checking.{passed}
use Rattle.card.specs.declared.edition.Edition as named
use Rattle.card.specs.Parts.{edition_number}
use Rattle.card.proofs.Editions.{edition_with, most_200}

pub any_not : (p : List ℕ → Bool) (l : List (List ℕ)) (i : ℕ) → i < length l → any p l ≡ false → p (get_or l i []) ≡ false
unfolding any
any_not p [] i h e = absurd (omega arith)
any_not p (x ∷ l) zero h e = or_left (p x) (any p l) e
any_not p (x ∷ l) (suc i) h e = any_not p l i (le_of_suc-le-suc h) (or_right (p x) (any p l) e)

-- ---- 7: the numbers in range

bounds : (low high x : Float) → Held binary32 low → Held binary32 high → T (fits binary32 x) → outside x low high ≡ false → Real low x
unfolding outside
bounds low high x l g f e =
    let b = both (le low x) (le x high) e in
    record {
      held = (
        f,
        amid_finite binary32 low x high l (le_real low x b.0).1 g
            (inl (le→place binary32 low x l.0 f b.0, le→place binary32 x high f g.0 b.1)),
      );
      above = b.0;
    }

bound_held : Held binary32 bound
unfolding of_bits of_fields
bound_held = (of_bits-fits binary32 0x4480_0000, tt)

below_held : Held binary32 (neg bound)
unfolding of_bits of_fields neg
below_held = (neg-fits binary32 bound (of_bits-fits binary32 0x4480_0000), tt)

zero_held : Held binary32 f0
unfolding of_bits of_fields
zero_held = (of_bits-fits binary32 0, tt)

largest_held : Held binary32 largest
unfolding of_bits of_fields
largest_held = (of_bits-fits binary32 0x7f7f_ffff, tt)

in_range : (r : Range) (n : ℕ) → out_of r n ≡ false → In r n
unfolding out_of
in_range Any n e = tt
in_range Bounded n e = bounds _ _ (f32 n) below_held bound_held (of_bits-fits binary32 n) e
in_range NotNegative n e = bounds _ _ (f32 n) zero_held bound_held (of_bits-fits binary32 n) e
in_range Cap n e = bounds _ _ (f32 n) zero_held largest_held (of_bits-fits binary32 n) e

ranged : (cs : List Cell) (l : List ℕ) (p : ℕ) → out_of_range cs (numbers_at cs l p) ≡ false → Ranged cs (numbers_at cs l p)
unfolding any_cell numbers_at
ranged [] l p e k = tt
ranged (c ∷ cs) l p e zero = in_range c.range (bits_at l p c.width) (or_left (out_of c.range (bits_at l p c.width)) _ e)
ranged (c ∷ cs) l p e (suc k) = ranged cs l (p + c.width) (or_right (out_of c.range (bits_at l p c.width)) _ e) k

-- ---- the records of a row

module _ (cs : List Cell) (l : List ℕ) (p n : ℕ) where
  abbrev row : List (List ℕ)
  row = records_at cs l p n

  row_ranged : any (out_of_range cs) row ≡ false → (i : ℕ) → i < length row → Ranged cs (get_or row i [])
  row_ranged e i h =
      let within : i < n = rw (records_length cs l p n) at h in
      let here = record_at cs l p n i within in
      let passes : out_of_range cs (numbers_at cs l (p + i * width_of cs)) ≡ false = rw here at (any_not (out_of_range cs) row i h e) in
      rw here (ranged cs l (p + i * width_of cs) passes)

-- ---- 6: no kind above the listed ones fits

known : (j : List ℕ) → misfit j ≡ false → at 0 j < length kinds
unfolding kind_at
known j e = within (leb (length kinds) (at 0 j)) refl
  where
    within : (s : Bool) → leb (length kinds) (at 0 j) ≡ s → at 0 j < length kinds
    within false n = leb-false (length kinds) (at 0 j) n
    within true y = absurd (true≢false (rw (get_or-eq_default kinds no_kind {n = at 0 j} (leb-true (length kinds) (at 0 j) y)) at e))

-- ---- 19: angle limits at most 7 in size

in_size : (x : Float) → outside x (neg f7) f7 ≡ false → T (le (abs_of x) f7)
unfolding is_finite of_bits of_fields
in_size x e = and_r (is_finite x) (le (abs_of x) f7) (subst T (sym (not-false (is_finite x && le (abs_of x) f7) (sym (over_is x f7 refl) ∙ e))) tt)

not_wide : (k : ℕ) (j : List ℕ) → wide k j ≡ false → Narrow k j
not_wide k j e =
    let low = outside (float j k) (neg f7) f7 in
    let high = outside (float j (k + 1)) (neg f7) f7 in
    (in_size (float j k) (or_left low high e), in_size (float j (k + 1)) (or_right low high e))

narrow : (j : List ℕ) → too_wide j ≡ false → T (kind_of j).angles → Narrow 28 j × Narrow 30 j
narrow j e a =
    let both : (wide 28 j || wide 30 j) ≡ false = rw (is_true (kind_of j).angles a) at e in
    (not_wide 28 j (or_left (wide 28 j) (wide 30 j) both), not_wide 30 j (or_right (wide 28 j) (wide 30 j) both))

-- ---- 10: the bodies that a joint names

module _ (bodies : List (List ℕ)) (a b : ℕ) (e : wrong_pair bodies a b ≡ false) where
  there : (leb (length bodies) a || leb (length bodies) b) ≡ false
  there =
      or_left (leb (length bodies) a || leb (length bodies) b) (eqb a b)
      (or_left (leb (length bodies) a || leb (length bodies) b || eqb a b) (anchored bodies a && anchored bodies b) e)

  first_body : a < length bodies
  first_body = leb-false (length bodies) a (or_left (leb (length bodies) a) (leb (length bodies) b) there)

  second_body : b < length bodies
  second_body = leb-false (length bodies) b (or_right (leb (length bodies) a) (leb (length bodies) b) there)

-- ---- the card

pub accepted : (card : List ℕ) → check_of card ≡ 0 → Accepted card
unfolding check_of card_of
accepted card z =
    let e = edition_at card in
    let c = card_of card in
    let t = passed (card_checks e card c) tt z in
    let n = bits_at card 0 8 in
    let bodies = at 1 c.header in
    let joints = at 2 c.header in
    let rate = at 3 c.header in
    let counts = t 3 in
    let bits = or_right (unused_set e.header c.header || any (unused_set body) c.bodies) (any (λ j. unused_set e.joint j || misfit j) c.joints) (t 6) in
    let floats = or_left (out_of_range e.header c.header || any (out_of_range body) c.bodies) (any (out_of_range e.joint) c.joints) (t 7) in
    let last = or_right (out_of_range e.header c.header || any (out_of_range body) c.bodies) (any (out_of_range e.joint) c.joints) (t 7) in
    let size = width_of e.header + width_of body * bodies + width_of e.joint * joints in
    let whole : 8 * length card ≡ size = eqb-true (8 * length card) size (not-false (eqb (8 * length card) size) (t 5)) in
    record {
      edition = (omega (arith, eqb-false n 0 (or_left (eqb n 0) (ltb (length editions) n) (t 2))), ltb-false (length editions) n (or_right (eqb n 0) (ltb (length editions) n) (t 2)));
      enough = omega (arith, whole);
      has =
          record {
            bodies = records_length body card _ _;
            joints = records_length e.joint card _ _;
            few_bodies = ltb-false e.most bodies (or_right (eqb bodies 0) (ltb e.most bodies) (or_left (eqb bodies 0 || ltb e.most bodies) (ltb e.most joints) counts));
            few_joints = ltb-false e.most joints (or_right (eqb bodies 0 || ltb e.most bodies) (ltb e.most joints) counts);
            least_rate = ltb-false rate 16 (or_left (ltb rate 16) (ltb e.fastest rate) (t 4));
            most_rate = ltb-false e.fastest rate (or_right (ltb rate 16) (ltb e.fastest rate) (t 4));
            header = ranged e.header card 0 (or_left (out_of_range e.header c.header) (any (out_of_range body) c.bodies) floats);
            body = row_ranged body card _ _ (or_right (out_of_range e.header c.header) (any (out_of_range body) c.bodies) floats);
            joint = λ i h.
                let j = get_or c.joints i [] in
                let pair = any_not (λ r. wrong_pair c.bodies (at 1 r) (at 2 r)) c.joints i h (t 10) in
                let fit = or_right (unused_set e.joint j) (misfit j) (any_not (λ r. unused_set e.joint r || misfit r) c.joints i h bits) in
                record {
                  ranged = row_ranged e.joint card _ _ last i h;
                  kind = known j fit;
                  body1 = first_body c.bodies (at 1 j) (at 2 j) pair;
                  body2 = second_body c.bodies (at 1 j) (at 2 j) pair;
                  angles = narrow j (any_not too_wide c.joints i h (t 19));
                };
          };
    }

-- ---- 1

pub at_least_12 : (card : List ℕ) → check_of card ≡ 0 → 12 ≤ length card
unfolding check_of
at_least_12 card z = ltb-false (length card) 12 (passed (card_checks (edition_at card) card (card_of card)) tt z 1)

-- ---- 2

-- the card names an edition
pub edition : (card : List ℕ) → check_of card ≡ 0 → (e : named.Edition) × (edition_number e ≡ bits_at card 0 8)
edition card z = let a = accepted card z in edition_with (bits_at card 0 8) a.edition.0 a.edition.1

-- ---- 3

pub at_most_200 : (card : List ℕ) → check_of card ≡ 0 → let h = (card_of card).header in (at 1 h ≤ 200) × (at 2 h ≤ 200)
at_most_200 card z =
    let a = accepted card z in
    let most : (edition_at card).most ≤ 200 = rw (edition card z).1 at (most_200 (edition card z).0) in
    (omega (arith, a.has.few_bodies, most), omega (arith, a.has.few_joints, most))

-- ---- 17

-- a body that is missing has no number set
none_set : (l : List (List ℕ)) (i : ℕ) → any dominant l ≡ false → at 4 (get_or l i []) ≡ 0
unfolding any
none_set [] i e = refl
none_set (b ∷ l) zero e = eqb-true (at 4 b) 0 (not-false (eqb (at 4 b) 0) (or_left (dominant b) (any dominant l) e))
none_set (b ∷ l) (suc i) e = none_set l i (or_right (dominant b) (any dominant l) e)

pub no_dominance : (card : List ℕ) → check_of card ≡ 0 → (i : ℕ) → at 4 (get_or (card_of card).bodies i []) ≡ 0
unfolding check_of
no_dominance card z i = none_set (card_of card).bodies i (passed (card_checks (edition_at card) card (card_of card)) tt z 17)
