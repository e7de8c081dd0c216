-- The editions of the table: how their headers and joints begin, and the checks behind the second.
use Prim.Native.Nat.{ℕ, zero, suc, ◌+◌, ◌*◌, ◌-◌, ◌/◌, ◌%◌, ◌^◌, ◌≤◌}
use native.Mathlib.Nat.{mul_assoc}
use native.Mathlib.Omega.{arith}
use mathlib.Core.Path.{◌≡◌, refl, sym, ap, subst, ◌∙◌}
use mathlib.Core.Bool.{Bool, true, false, not, ◌||◌}
use mathlib.Core.List.{List, [], ◌∷◌, ◌++◌}
use lib.ListN.{length}
use lib.Dec.{eqb, ltb}
use borrow.Author.Tests.{eq-eqb, ne_eqb, lt-ltb, le-ltb, ltb-false}
use Rattle.card.specs.declared.edition.Edition as named
use Rattle.card.specs.declared.edition.Edition.TheVariants.{One, Two, Three}
use Rattle.card.specs.declared.edition.EditionSizes.{EditionSizes}
use Rattle.card.specs.declared.records.HeaderBits.{HeaderBits}
use Rattle.card.specs.declared.records.JointBits.{JointBits}
use Rattle.card.specs.Format.{Range}
use Rattle.card.specs.Format.{Bounded, NotNegative, Cap}
use Rattle.card.specs.Format.{bits_at, Cell, width_of, numbers_at}
use Rattle.card.specs.Card.{at, flag, always, never, bits, header, kind_of, compliant, motored, joint, Edition, edition_of, edition_at, card_of, float}
use Rattle.card.specs.Checks.{Refusal, refuse, first_of, record_checks, card_checks, check_of}
use Rattle.card.specs.Parts.{edition_number, sizes_of, card_with, edition_fault, counts_fault, rate_fault, float_at, header_bits, joint_bits}
use Rattle.card.proofs.Bools.{or_left, or_right}
use Rattle.card.proofs.Packed.{field}
use Rattle.card.proofs.Cells.{Row, flat, numbers-append}
use Rattle.card.proofs.Checking.{First, applies, passes, first, ends}

-- the cells of an edition
abbrev pub cells : named.Edition → Edition
cells e = edition_of (edition_number e)

-- ---- a header

abbrev pub row : ℕ → (List ℕ → Bool) → Range → Row
row n used range = record { count = n; used = used; range = range }

abbrev pub header_cells : ℕ → ℕ → ℕ → List Cell
header_cells counts rate zeros = bits 8 always ++ bits counts always ++ bits counts always ++ bits rate always ++ bits zeros never

abbrev pub header_rows : List Row
header_rows = row 1 always Bounded ∷ row 1 always NotNegative ∷ []

-- cells of a header of so many bytes
pub record HeaderOf (cs : List Cell) (bytes : ℕ) : Type 0 where
  pub counts : ℕ
  pub rate : ℕ
  pub zeros : ℕ
  pub is : cs ≡ header counts rate zeros
  pub whole : width_of (header_cells counts rate zeros) + 64 ≡ 8 * bytes

pub header_of : (e : named.Edition) → HeaderOf (cells e).header (sizes_of e).header_bytes
unfolding edition_of sizes_of
header_of One = record { counts = 6; rate = 10; zeros = 2; is = refl; whole = refl }
header_of Two = record { counts = 8; rate = 16; zeros = 24; is = refl; whole = refl }
header_of Three = record { counts = 8; rate = 16; zeros = 24; is = refl; whole = refl }

-- of the edition's header, its last 8 bytes are gravity and warm coefficient
pub header_floats : (e : named.Edition) (card : List ℕ)
    → let ns = numbers_at (cells e).header card 0 in
    let bytes = (sizes_of e).header_bytes in
    (float ns 5 ≡ float_at card (bytes - 8)) × (float ns 6 ≡ float_at card (bytes - 4))
unfolding edition_of sizes_of numbers_at float_at
header_floats One card = (refl, refl)
header_floats Two card = (refl, refl)
header_floats Three card = (refl, refl)

-- ---- a joint

abbrev pub joint_cells : ℕ → ℕ → List Cell
joint_cells numbers zeros = bits 3 always ++ bits numbers always ++ bits numbers always ++ bits 1 always ++ bits 1 always ++ bits 2 always ++ bits zeros never

abbrev pub joint_rows : List Row
joint_rows =
    row 6 always Bounded ∷ row 8 (λ ns. (kind_of ns).bases) Bounded ∷ row 3 (λ ns. (kind_of ns).axis) Bounded
    ∷ row 1 (compliant 0) NotNegative ∷ row 1 (compliant 1) NotNegative ∷ row 1 (compliant 2) NotNegative ∷ row 1 (compliant 3) NotNegative
    ∷ row 2 (flag 3) Bounded ∷ row 2 (flag 4) Bounded ∷ row 2 motored Bounded ∷ row 1 motored Cap ∷ row 2 motored Bounded ∷ []

-- the breaking load behind them, in an edition that has it
abbrev pub load_rows : named.Edition → List Row
load_rows One = []
load_rows Two = []
load_rows Three = row 1 always Cap ∷ []

-- cells of a joint, whose floats begin at bit 24
pub record JointOf (cs : List Cell) : Type 0 where
  pub numbers : ℕ
  pub zeros : ℕ
  pub more : List Row
  pub is : cs ≡ joint numbers zeros (flat more)
  pub whole : width_of (joint_cells numbers zeros) ≡ 24
  -- a body's number is below 256
  pub few : 2 ^ numbers ≤ 256

pub joint_of_lem : (e : named.Edition) → JointOf (cells e).joint
unfolding edition_of
joint_of_lem One = record { numbers = 5; zeros = 7; more = load_rows One; is = refl; whole = refl; few = omega arith }
joint_of_lem Two = record { numbers = 8; zeros = 1; more = load_rows Two; is = refl; whole = refl; few = omega arith }
joint_of_lem Three = record { numbers = 8; zeros = 1; more = load_rows Three; is = refl; whole = refl; few = omega arith }

pub more_is : (e : named.Edition) → (joint_of_lem e).more ≡ load_rows e
unfolding joint_of_lem
more_is One = refl
more_is Two = refl
more_is Three = refl

-- the fields of the word that it begins with
module _ (l : List ℕ) (numbers zeros : ℕ) (more : List Cell) (whole : width_of (joint_cells numbers zeros) ≡ 24) {w : ℕ} (e : w ≡ bits_at l 0 24) where
  part : (m n k : ℕ) → m + n + k ≡ 24 → w / 2 ^ k % 2 ^ n ≡ bits_at l m n
  part m n k s =
      let place : 0 + m ≡ m = omega arith in
      field l 0 m n k (e ∙ ap (bits_at l 0) (sym s)) ∙ ap (λ q. bits_at l q n) place

  pub joint_word : ◌≡◌ {A = JointBits}
      (record {
        kind = w / 2 ^ (numbers + numbers + 4 + zeros) % 2 ^ 3;
        body1 = w / 2 ^ (numbers + 4 + zeros) % 2 ^ numbers;
        body2 = w / 2 ^ (4 + zeros) % 2 ^ numbers;
        first = eqb (w / 2 ^ (3 + zeros) % 2 ^ 1) 1;
        second = eqb (w / 2 ^ (2 + zeros) % 2 ^ 1) 1;
        motor = w / 2 ^ zeros % 2 ^ 2;
        zero = w / 2 ^ 0 % 2 ^ zeros;
      })
      (joint_bits (numbers_at (joint numbers zeros more) l 0))
  unfolding joint_bits numbers_at
  joint_word =
      let flags = 3 + numbers + numbers in
      rw (
        part 0 3 (numbers + numbers + 4 + zeros) (omega (arith, whole)),
        part 3 numbers (numbers + 4 + zeros) (omega (arith, whole)),
        part (3 + numbers) numbers (4 + zeros) (omega (arith, whole)),
        part flags 1 (3 + zeros) (omega (arith, whole)),
        part (flags + 1) 1 (2 + zeros) (omega (arith, whole)),
        part (flags + 1 + 1) 2 zeros (omega (arith, whole)),
        part (flags + 1 + 1 + 2) zeros 0 (omega (arith, whole)),
      )
      refl

pub joint_width : (e : named.Edition) → width_of (cells e).joint ≡ 8 * (sizes_of e).joint_bytes
unfolding edition_of sizes_of
joint_width One = refl
joint_width Two = refl
joint_width Three = refl

-- what holds of any numbers before a joint's floats holds of the joint's numbers
pub joint_numbers_lem : (l : List ℕ) (p : ℕ) (cs : List Cell) (J : JointOf cs) (P : List ℕ → Type 0)
    → ((kind body1 body2 first second motor zero : ℕ) → P (kind ∷ body1 ∷ body2 ∷ first ∷ second ∷ motor ∷ zero ∷ numbers_at (flat (joint_rows ++ J.more)) l (p + 24))) → P (numbers_at cs l p)
unfolding numbers_at
joint_numbers_lem l p cs J P h =
    let cells = joint_cells J.numbers J.zeros in
    let later = flat (joint_rows ++ J.more) in
    let parts = numbers-append cells later l p ∙ ap (λ w. numbers_at cells l p ++ numbers_at later l (p + w)) J.whole in
    rw J.is (subst P (sym parts) (h _ _ _ _ _ _ _))

-- ---- sizes

-- in bytes and in bits
pub header_width : (e : named.Edition) → 8 * (sizes_of e).header_bytes ≡ width_of (cells e).header
unfolding edition_of sizes_of
header_width One = refl
header_width Two = refl
header_width Three = refl

pub header_bytes_lem : (e : named.Edition) → (12 ≤ (sizes_of e).header_bytes) × ((sizes_of e).header_bytes ≤ 16)
unfolding edition_of sizes_of
header_bytes_lem One = (omega arith, omega arith)
header_bytes_lem Two = (omega arith, omega arith)
header_bytes_lem Three = (omega arith, omega arith)

pub joint_bytes_lem : (e : named.Edition) → (123 ≤ (sizes_of e).joint_bytes) × ((sizes_of e).joint_bytes ≤ 127)
unfolding edition_of sizes_of
joint_bytes_lem One = (omega arith, omega arith)
joint_bytes_lem Two = (omega arith, omega arith)
joint_bytes_lem Three = (omega arith, omega arith)

pub joints_bytes : (e : named.Edition) (joints : ℕ) → (sizes_of e).joint_bytes * joints ≤ 127 * joints
unfolding edition_of sizes_of
joints_bytes One joints = omega arith
joints_bytes Two joints = omega arith
joints_bytes Three joints = omega arith

pub most_200 : (e : named.Edition) → (cells e).most ≤ 200
unfolding edition_of
most_200 One = omega arith
most_200 Two = omega arith
most_200 Three = omega arith

pub fastest_4000 : (e : named.Edition) → (cells e).fastest ≤ 4000
unfolding edition_of
fastest_4000 One = omega arith
fastest_4000 Two = omega arith
fastest_4000 Three = omega arith

-- ---- the checks

-- a number of the table is an edition's
pub edition_with : (n : ℕ) → 1 ≤ n → n ≤ 3 → (e : named.Edition) × (edition_number e ≡ n)
edition_with zero h g = absurd (omega arith)
edition_with (suc zero) h g = (One, refl)
edition_with (suc (suc zero)) h g = (Two, refl)
edition_with (suc (suc (suc zero))) h g = (Three, refl)
edition_with (suc (suc (suc (suc n)))) h g = absurd (omega arith)

-- one that is of no edition is refused
pub other : (n : ℕ) → (n ≡ 1 → ⊥) → (n ≡ 2 → ⊥) → (n ≡ 3 → ⊥) → edition_fault n ≡ true
unfolding edition_fault
other zero a b c = refl
other (suc zero) a b c = absurd (a refl)
other (suc (suc zero)) a b c = absurd (b refl)
other (suc (suc (suc zero))) a b c = absurd (c refl)
other (suc (suc (suc (suc n)))) a b c = rw (ne_eqb (suc (suc (suc (suc n)))) 0 (λ z. omega arith), lt-ltb 3 (suc (suc (suc (suc n)))) (omega arith)) refl

-- an edition of the table is not refused
pub listed : (e : named.Edition) → edition_fault (edition_number e) ≡ false
unfolding edition_fault
listed One = refl
listed Two = refl
listed Three = refl

-- the header and the counts of a card that 3 lets pass are small
pub few : (e : named.Edition) (bodies joints : ℕ) → counts_fault (sizes_of e).most bodies joints ≡ false
    → (counts_fault (sizes_of e).most bodies joints ≡ false) × ((sizes_of e).header_bytes ≤ 16) × ((sizes_of e).joint_bytes * joints ≤ 127 * joints) × (bodies ≤ 200) × (joints ≤ 200)
unfolding counts_fault sizes_of
few e bodies joints h =
    let most = (cells e).most in
    let first_two = or_left (eqb bodies 0 || ltb most bodies) (ltb most joints) h in (
      h,
      (header_bytes_lem e).1,
      joints_bytes e joints,
      omega (arith, most_200 e, ltb-false most bodies (or_right (eqb bodies 0) (ltb most bodies) first_two)),
      omega (arith, most_200 e, ltb-false most joints (or_right (eqb bodies 0 || ltb most bodies) (ltb most joints) h)),
    )

-- the checks from 3 on
abbrev pub rest : named.Edition → EditionSizes → List ℕ → ℕ → ℕ → ℕ → List Refusal
rest n sizes card bodies joints rate =
    let e = cells n in
    refuse 3 (counts_fault sizes.most bodies joints) ∷ refuse 4 (rate_fault sizes.fastest rate)
    ∷ refuse 5 (not (eqb (8 * length card) (width_of e.header + 752 * bodies + width_of e.joint * joints)))
    ∷ record_checks e (card_with e card bodies joints)

module _ (card : List ℕ) where
  abbrev numbers : List ℕ
  numbers = numbers_at (edition_at card).header card 0

  pub card_is : card_of card ≡ card_with (edition_at card) card (at 1 numbers) (at 2 numbers)
  unfolding card_of
  card_is = refl

  module _ (long : ltb (length card) 12 ≡ false) where
    pub past_2 : (e : named.Edition) {sizes : EditionSizes} {h : HeaderBits} {answer : ℕ} → edition_number e ≡ bits_at card 0 8 → sizes ≡ sizes_of e → h ≡ header_bits (numbers_at (cells e).header card 0)
        → First (rest e sizes card h.bodies h.joints h.rate) answer → answer ≡ check_of card
    unfolding check_of edition_fault counts_fault rate_fault header_bits sizes_of
    past_2 e {answer = answer} en es eh f =
        let all : First (card_checks (edition_at card) card (card_of card)) answer = rw card_is (passes long (passes (rw en at (listed e)) (rw (es, eh, en) at f))) in
        first all

    pub other_edition : edition_fault (bits_at card 0 8) ≡ true → 2 ≡ check_of card
    unfolding check_of edition_fault
    other_edition other =
        let all : First (card_checks (edition_at card) card (card_of card)) 2 = passes long (applies other) in first all

-- a length in bytes, and in bits
module _ (n : named.Edition) {sizes : EditionSizes} (e : sizes ≡ sizes_of n) (size bodies joints : ℕ) where
  abbrev bytes_length : ℕ
  bytes_length = sizes.header_bytes + 94 * bodies + sizes.joint_bytes * joints

  abbrev bits_length : ℕ
  bits_length = width_of (cells n).header + 752 * bodies + width_of (cells n).joint * joints

  in_bits : 8 * bytes_length ≡ bits_length
  in_bits = rw (e, ← (header_width n), joint_width n) (omega (arith, mul_assoc 8 (sizes_of n).joint_bytes joints))

  pub right_length : size ≡ bytes_length → not (eqb (8 * size) bits_length) ≡ false
  right_length r = rw (eq-eqb (8 * size) bits_length (ap (λ m. 8 * m) r ∙ in_bits)) refl

  pub wrong_length_lem : (size ≡ bytes_length → ⊥) → not (eqb (8 * size) bits_length) ≡ true
  wrong_length_lem x = rw (ne_eqb (8 * size) bits_length (λ r. x (omega (arith, r, in_bits)))) refl

-- what the checks from 3 on answer, as the code makes them
module _ (e : named.Edition) (card : List ℕ) (en : edition_number e ≡ bits_at card 0 8) (long : 12 ≤ length card) where
  answers : {h : HeaderBits} {n : ℕ} → h ≡ header_bits (numbers_at (cells e).header card 0) → First (rest e (sizes_of e) card h.bodies h.joints h.rate) n → n ≡ check_of card
  answers eh f = past_2 card (le-ltb (length card) 12 long) e en refl eh f

  pub refused_early : let h = header_bits (numbers_at (cells e).header card 0) in
      let s = sizes_of e in
      (h ≡ header_bits (numbers_at (cells e).header card 0))
      × (counts_fault s.most h.bodies h.joints ≡ true → 3 ≡ check_of card)
      × (counts_fault s.most h.bodies h.joints ≡ false → rate_fault s.fastest h.rate ≡ true → 4 ≡ check_of card)
      × (counts_fault s.most h.bodies h.joints ≡ false → rate_fault s.fastest h.rate ≡ false → (length card ≡ s.header_bytes + 94 * h.bodies + s.joint_bytes * h.joints → ⊥) → 5 ≡ check_of card)
  refused_early = (
    refl,
    (λ c. answers refl (applies c)),
    (λ c r. answers refl (passes c (applies r))),
    (λ c r x. answers refl (passes c (passes r (applies (wrong_length_lem e refl _ _ _ x))))),
  )

  pub by_records : (h : HeaderBits) → h ≡ header_bits (numbers_at (cells e).header card 0) → counts_fault (sizes_of e).most h.bodies h.joints ≡ false → rate_fault (sizes_of e).fastest h.rate ≡ false
      → length card ≡ (sizes_of e).header_bytes + 94 * h.bodies + (sizes_of e).joint_bytes * h.joints → first_of (record_checks (cells e) (card_with (cells e) card h.bodies h.joints)) ≡ check_of card
  by_records h eh c r l = answers eh (passes c (passes r (passes (right_length e refl _ _ _ l) (ends _ refl))))
