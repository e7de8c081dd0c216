-- The faults of each record, as its function finds them.
use Prim.Native.Nat.{ℕ, zero, suc, ◌+◌, ◌*◌, ◌-◌, ◌<◌}
use native.Mathlib.Omega.{arith}
use mathlib.Core.Path.{◌≡◌, refl, ap, ◌∙◌}
use mathlib.Core.Bool.{Bool, true, false, not, ◌||◌, ◌&&◌, or-false}
use mathlib.Core.List.{List, [], ◌∷◌, ◌++◌}
use lib.Dec.{eqb, ltb}
use lib.Ieee.{neg}
use Rattle.vector.specs.Rotation.{norm_squared_of}
use Rattle.scalar.specs.Arith.{f0, largest}
use Rattle.card.specs.Format.{Bounded, NotNegative}
use Rattle.card.specs.declared.records.HeaderBits.{HeaderBits}
use Rattle.card.specs.declared.records.BodyBits.{BodyBits}
use Rattle.card.specs.declared.records.JointBits.{JointBits}
use Rattle.card.specs.declared.kinds.JointKind.{JointKind}
use Rattle.card.specs.declared.checks.Faults.{Faults}
use Rattle.card.specs.Format.{bits_at, bound, Cell, width_of, numbers_at, any_cell, unused_set, out_of}
use Rattle.card.specs.Card.{at, flag, always, never, bits, header, moving, body, motored, joint}
use Rattle.card.specs.Checks.{misfit, too_wide, reversed, off_unit, off_axis}
use Rattle.card.specs.Parts.{float_at, vec3_at, quat_at, wide_at, limit_at, norms_at, header_bits, body_bits, joint_bits, kind_for, any_to, set_at, outside_at, used_out, faults, field_faults, breaking_load_faults, header_faults, body_faults, joint_faults}
use Rattle.card.proofs.Packed.{below}
use Rattle.card.proofs.Cells.{Row, cell_of, flat, any_at, fieldwise, record_fieldwise}
use Rattle.card.proofs.Cells as by_cell
use Rattle.card.specs.declared.edition.Edition as named
use Rattle.card.specs.declared.edition.Edition.TheVariants.{One, Two, Three}
use Rattle.card.proofs.Editions.{row, header_cells, header_rows, HeaderOf, joint_cells, joint_rows, load_rows, JointOf, cells, joint_of_lem, more_is, joint_numbers_lem}

abbrev pub is_set : ℕ → Bool
is_set n = not (eqb n 0)

-- the tests of checks 6 and 7, by the record's numbers
abbrev pub unused : List ℕ → Cell → ℕ → Bool
unused ns c n = not (c.used ns) && not (eqb n 0)

abbrev pub beyond : List ℕ → Cell → ℕ → Bool
beyond ns c n = out_of c.range n && c.used ns

-- ---- the header

-- its floats begin at byte a and at byte b
abbrev header_found : List ℕ → HeaderBits → ℕ → ℕ → Faults
header_found l h a b =
    field_faults (field_faults (faults (is_set h.zero) false false false false false) l true (neg bound) bound a 1) l true f0 bound b 1

module _ (l : List ℕ) (counts rate zeros a b : ℕ) (first : width_of (header_cells counts rate zeros) ≡ 8 * a) (second : 8 * a + 32 ≡ 8 * b) where
  abbrev header_numbers : List ℕ
  header_numbers = numbers_at (header counts rate zeros) l 0

  header_unused : unused_set (header counts rate zeros) header_numbers ≡ (header_found l (header_bits header_numbers) a b).bits
  unfolding field_faults set_at header_bits numbers_at out_of
  header_unused = record_fieldwise (unused header_numbers) l (header_cells counts rate zeros) header_rows ∙ simp or-false

  header_beyond : used_out (header counts rate zeros) header_numbers ≡ (header_found l (header_bits header_numbers) a b).floats
  unfolding field_faults outside_at header_bits numbers_at out_of
  header_beyond =
      record_fieldwise (beyond header_numbers) l (header_cells counts rate zeros) header_rows ∙ ap (fieldwise (beyond header_numbers) l false header_rows) first
      ∙ ap (λ q. any_to (by_cell.float_at (beyond header_numbers) l (cell_of (row 1 always Bounded)) (8 * a)) 1 || any_to (by_cell.float_at (beyond header_numbers) l (cell_of (row 1 always NotNegative)) q) 1) second

  header_is : header_found l (header_bits header_numbers) a b ≡ header_faults (header counts rate zeros) header_numbers
  unfolding header_faults field_faults
  header_is = rw (header_unused, header_beyond) refl

-- as the calls give them
pub header_are : (l : List ℕ) (cs : List Cell) {bytes : ℕ} → HeaderOf cs bytes → {h : HeaderBits} {f g : Faults} → h ≡ header_bits (numbers_at cs l 0)
    → f ≡ field_faults (faults (is_set h.zero) false false false false false) l true (neg bound) bound (bytes - 8) 1
    → g ≡ field_faults f l true f0 bound (bytes - 4) 1 → g ≡ header_faults cs (numbers_at cs l 0)
header_are l cs {bytes} H eh ef eg =
    rw (eg, ef, eh, H.is) (header_is l H.counts H.rate H.zeros (bytes - 8) (bytes - 4) (omega (arith, H.whole)) (omega (arith, H.whole)))

-- ---- a body

abbrev pub body_cells : List Cell
body_cells = bits 1 always ++ bits 1 moving ++ bits 1 moving ++ bits 1 moving ++ bits 8 moving ++ bits 4 never

abbrev body_rows : List Row
body_rows = row 10 always Bounded ∷ row 6 moving Bounded ∷ row 1 moving NotNegative ∷ row 6 moving Bounded ∷ []

abbrev body_own : BodyBits → Bool
body_own b = b.anchored && (b.lock_x || b.lock_y || b.lock_z || is_set b.dominance) || is_set b.zero

abbrev body_fields : List ℕ → BodyBits → Faults
body_fields l b =
    let start = faults (body_own b) (is_set b.dominance) false false false false in
    let f1 = field_faults start l true (neg bound) bound 2 10 in
    let f2 = field_faults f1 l (not b.anchored) (neg bound) bound 42 6 in
    let f3 = field_faults f2 l (not b.anchored) f0 bound 66 1 in
    field_faults f3 l (not b.anchored) (neg bound) bound 70 6

pub own_bits : (a x y z d o : Bool)
    → (not (not a) && x || (not (not a) && y || (not (not a) && z || (not (not a) && d || (o || false))))) ≡ (a && (x || y || z || d) || o)
own_bits true true y z d o = refl
own_bits true false true z d o = refl
own_bits true false false true d o = refl
own_bits true false false false true o = refl
own_bits true false false false false o = or-false o
own_bits false x y z d o = or-false o

-- a bit that is not 0 is 1
one_bit : (l : List ℕ) (p : ℕ) → is_set (bits_at l p 1) ≡ eqb (bits_at l p 1) 1
one_bit l p = of_two (bits_at l p 1) (below l p 1)
  where
    of_two : (n : ℕ) → n < 2 → is_set n ≡ eqb n 1
    of_two zero h = refl
    of_two (suc zero) h = refl
    of_two (suc (suc n)) h = absurd (omega arith)

module _ (l : List ℕ) where
  abbrev body_numbers_lem : List ℕ
  body_numbers_lem = numbers_at body l 0

  body_first : any_at (unused body_numbers_lem) l body_cells 0 ≡ body_own (body_bits body_numbers_lem)
  unfolding body_bits numbers_at
  body_first = rw (one_bit l 1, one_bit l 2, one_bit l 3) (own_bits (flag 0 body_numbers_lem) (flag 1 body_numbers_lem) (flag 2 body_numbers_lem) (flag 3 body_numbers_lem) (is_set (at 4 body_numbers_lem)) (is_set (at 5 body_numbers_lem)))

  body_unused : unused_set body body_numbers_lem ≡ (body_fields l (body_bits body_numbers_lem)).bits
  unfolding field_faults set_at body_bits
  body_unused = record_fieldwise (unused body_numbers_lem) l body_cells body_rows ∙ ap (λ found. fieldwise (unused body_numbers_lem) l found body_rows 16) body_first

  body_beyond : used_out body body_numbers_lem ≡ (body_fields l (body_bits body_numbers_lem)).floats
  unfolding field_faults outside_at out_of body_bits
  body_beyond = record_fieldwise (beyond body_numbers_lem) l body_cells body_rows

  pub body_is : let g = body_fields l (body_bits body_numbers_lem) in faults g.bits g.dominance g.floats g.angles g.limits (off_unit (norm_squared_of (quat_at l 14))) ≡ body_faults body_numbers_lem
  unfolding body_faults field_faults quat_at float_at numbers_at body_bits
  body_is = rw (body_unused, body_beyond) refl

-- ---- a joint

abbrev joint_fields : List ℕ → JointBits → JointKind → Faults
joint_fields l b k =
    let many = k.compliances in
    let motor = is_set b.motor in
    let start = faults (is_set b.zero) false false false false false in
    let f1 = field_faults start l true (neg bound) bound 3 6 in
    let f2 = field_faults f1 l k.bases (neg bound) bound 27 8 in
    let f3 = field_faults f2 l k.axis (neg bound) bound 59 3 in
    let f4 = field_faults f3 l (ltb 0 many) f0 bound 71 1 in
    let f5 = field_faults f4 l (ltb 1 many) f0 bound 75 1 in
    let f6 = field_faults f5 l (ltb 2 many) f0 bound 79 1 in
    let f7 = field_faults f6 l (ltb 3 many) f0 bound 83 1 in
    let f8 = field_faults f7 l b.first (neg bound) bound 87 2 in
    let f9 = field_faults f8 l b.second (neg bound) bound 95 2 in
    let f10 = field_faults f9 l motor (neg bound) bound 103 2 in
    let f11 = field_faults f10 l motor f0 largest 111 1 in
    field_faults f11 l motor (neg bound) bound 115 2

abbrev joint_found : List ℕ → JointKind → Bool → Bool → Faults
joint_found l k bits floats = faults (bits || not k.fits) false floats (k.angles && (wide_at l 87 || wide_at l 95)) (limit_at l 87 || limit_at l 95) (norms_at l k.bases k.axis)

abbrev joint_kind : List ℕ → JointKind
joint_kind ns = kind_for (at 0 ns) (flag 3 ns) (flag 4 ns) (motored ns)

-- the breaking load behind the other floats
module _ (l : List ℕ) (f : Faults) where
  load_unused : (ns : List ℕ) (e : named.Edition) → fieldwise (unused ns) l f.bits (load_rows e) 984 ≡ (breaking_load_faults f l e).bits
  unfolding breaking_load_faults field_faults set_at
  load_unused ns One = refl
  load_unused ns Two = refl
  load_unused ns Three = refl

  load_beyond : (ns : List ℕ) (e : named.Edition) → fieldwise (beyond ns) l f.floats (load_rows e) 984 ≡ (breaking_load_faults f l e).floats
  unfolding breaking_load_faults field_faults outside_at out_of
  load_beyond ns One = refl
  load_beyond ns Two = refl
  load_beyond ns Three = refl

  load_dominance : (e : named.Edition) → (breaking_load_faults f l e).dominance ≡ f.dominance
  unfolding breaking_load_faults field_faults
  load_dominance One = refl
  load_dominance Two = refl
  load_dominance Three = refl

module _ (l : List ℕ) (e : named.Edition) where
  abbrev J : JointOf (cells e).joint
  J = joint_of_lem e

  abbrev before_floats : List Cell
  before_floats = joint_cells J.numbers J.zeros

  abbrev rows : List Row
  rows = joint_rows ++ load_rows e

  abbrev cs : List Cell
  cs = (cells e).joint

  abbrev ns : List ℕ
  ns = numbers_at cs l 0

  abbrev b : JointBits
  b = joint_bits ns

  joint_first : any_at (unused ns) l before_floats 0 ≡ is_set b.zero
  unfolding joint_bits numbers_at
  joint_first = rw J.is (or-false (is_set (at 6 (numbers_at before_floats l 0))))

  joint_fieldwise : (p : Cell → ℕ → Bool) → any_cell p cs ns ≡ fieldwise p l (any_at p l before_floats 0) rows 24
  joint_fieldwise p =
      ap (λ ds. any_cell p ds (numbers_at ds l 0)) (J.is ∙ ap (λ more. joint J.numbers J.zeros (flat more)) (more_is e)) ∙ record_fieldwise p l before_floats rows ∙ ap (fieldwise p l (any_at p l before_floats 0) rows) J.whole

  abbrev found : Faults
  found = joint_fields l b (joint_kind ns)

  joint_unused : unused_set cs ns ≡ (breaking_load_faults found l e).bits
  unfolding field_faults set_at joint_bits kind_for
  joint_unused = joint_fieldwise (unused ns) ∙ ap (λ first. fieldwise (unused ns) l first rows 24) joint_first ∙ load_unused l found ns e

  joint_beyond : used_out cs ns ≡ (breaking_load_faults found l e).floats
  unfolding field_faults outside_at out_of joint_bits kind_for
  joint_beyond = joint_fieldwise (beyond ns) ∙ load_beyond l found ns e

  -- what the bits before the floats are is open
  joint_others : (bits floats : Bool) → joint_found l (joint_kind ns) bits floats ≡ faults (bits || misfit ns) false floats (too_wide ns) (reversed 28 ns || reversed 30 ns) (off_axis ns)
  unfolding wide_at limit_at norms_at vec3_at quat_at float_at numbers_at kind_for
  joint_others bits floats =
      joint_numbers_lem l 0 cs J (λ ms. joint_found l (joint_kind ms) bits floats ≡ faults (bits || misfit ms) false floats (too_wide ms) (reversed 28 ms || reversed 30 ms) (off_axis ms))
      (λ a0 a1 a2 a3 a4 a5 a6. refl)

  joint_is : let g = breaking_load_faults found l e in joint_found l (joint_kind ns) g.bits g.floats ≡ joint_faults cs ns
  unfolding joint_faults
  joint_is = let g = breaking_load_faults found l e in rw (joint_unused, joint_beyond) (joint_others g.bits g.floats)

-- as the calls give them
pub joint_are : (l : List ℕ) (e : named.Edition) {b : JointBits} {k : JointKind} {f1 f2 f3 f4 f5 f6 f7 f8 f9 f10 f11 f12 f13 : Faults} {s t u v w : Bool}
    → b ≡ joint_bits (numbers_at (cells e).joint l 0) → k ≡ kind_for b.kind b.first b.second (is_set b.motor)
    → f1 ≡ field_faults (faults (is_set b.zero) false false false false false) l true (neg bound) bound 3 6
    → f2 ≡ field_faults f1 l k.bases (neg bound) bound 27 8
    → f3 ≡ field_faults f2 l k.axis (neg bound) bound 59 3
    → f4 ≡ field_faults f3 l (ltb 0 k.compliances) f0 bound 71 1
    → f5 ≡ field_faults f4 l (ltb 1 k.compliances) f0 bound 75 1
    → f6 ≡ field_faults f5 l (ltb 2 k.compliances) f0 bound 79 1
    → f7 ≡ field_faults f6 l (ltb 3 k.compliances) f0 bound 83 1
    → f8 ≡ field_faults f7 l b.first (neg bound) bound 87 2
    → f9 ≡ field_faults f8 l b.second (neg bound) bound 95 2
    → f10 ≡ field_faults f9 l (is_set b.motor) (neg bound) bound 103 2
    → f11 ≡ field_faults f10 l (is_set b.motor) f0 largest 111 1
    → f12 ≡ field_faults f11 l (is_set b.motor) (neg bound) bound 115 2
    → f13 ≡ breaking_load_faults f12 l e
    → s ≡ wide_at l 87 → t ≡ wide_at l 95 → u ≡ limit_at l 87 → v ≡ limit_at l 95 → w ≡ norms_at l k.bases k.axis
    → faults (f13.bits || not k.fits) f13.dominance f13.floats (k.angles && (s || t)) (u || v) w ≡ joint_faults (cells e).joint (numbers_at (cells e).joint l 0)
unfolding joint_bits field_faults
joint_are l e eb ek e1 e2 e3 e4 e5 e6 e7 e8 e9 e10 e11 e12 e13 es et eu ev ew =
    rw (e13, load_dominance l _ e, e12, e11, e10, e9, e8, e7, e6, e5, e4, e3, e2, e1, es, et, eu, ev, ew, ek, eb) (joint_is l e)
