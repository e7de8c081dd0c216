-- What the parts of the checks hand to each other, for their own contracts: the definitions that are read need none of it.
use Rattle.std.specs.Prelude.{ℕ, ◌+◌, ◌*◌, ◌/◌, Bool, true, false, not, ◌||◌, ◌&&◌, List, length, eqb, ltb, Float}
use Rattle.std.specs.List.{list_any, range_with_len}
use Rattle.std.specs.Float.Ieee.{neg, lt}
use Rattle.scalar.specs.Arith.{f32, f0, f7, largest}
use Rattle.scalar.specs.Scalar.{outside}
use Rattle.vector.specs.Vector.{length_squared_of}
use Rattle.vector.specs.Rotation.{norm_squared_of}
use Rattle.vector.specs.declared.Vec3.{Vec3}
use Rattle.vector.specs.declared.Quat.{Quat}
use Rattle.card.specs.declared.edition.Edition as named
use Rattle.card.specs.declared.edition.Edition.TheVariants.{One, Two, Three}
use Rattle.card.specs.declared.edition.EditionSizes.{EditionSizes}
use Rattle.card.specs.declared.kinds.JointKind.{JointKind}
use Rattle.card.specs.declared.records.HeaderBits.{HeaderBits}
use Rattle.card.specs.declared.records.BodyBits.{BodyBits}
use Rattle.card.specs.declared.records.JointBits.{JointBits}
use Rattle.card.specs.declared.checks.Faults.{Faults}
use Rattle.card.specs.Format.{bits_at, Cell, width_of, numbers_at, records_at, any_cell, unused_set, out_of}
use Rattle.card.specs.Card.{at, flag, body, kind_at, Edition, editions, edition_of, Card, quat}
use Rattle.card.specs.Checks.{any, misfit, dominant, too_wide, reversed, off_unit, off_axis}

abbrev pub edition_number : named.Edition → ℕ
edition_number One = 1
edition_number Two = 2
edition_number Three = 3

unfoldable pub sizes_of : named.Edition → EditionSizes
sizes_of n = let e = edition_of (edition_number n) in record { header_bytes = width_of e.header / 8; joint_bytes = width_of e.joint / 8; most = e.most; fastest = e.fastest }

-- a card with so many bodies and joints
abbrev pub card_with : Edition → List ℕ → ℕ → ℕ → Card
card_with e card bodies joints =
    record {
      header = numbers_at e.header card 0;
      bodies = records_at body card (width_of e.header) bodies;
      joints = records_at e.joint card (width_of e.header + width_of body * bodies) joints;
    }

unfoldable pub edition_fault : ℕ → Bool
edition_fault n = eqb n 0 || ltb (length editions) n

unfoldable pub counts_fault : ℕ → ℕ → ℕ → Bool
counts_fault most bodies joints = eqb bodies 0 || ltb most bodies || ltb most joints

unfoldable pub rate_fault : ℕ → ℕ → Bool
rate_fault fastest rate = ltb rate 16 || ltb fastest rate

-- ---- by the place of a byte in a record

unfoldable pub float_at : List ℕ → ℕ → Float
float_at part at = f32 (bits_at part (8 * at) 32)

unfoldable pub vec3_at : List ℕ → ℕ → Vec3
vec3_at part at = record { x = float_at part at; y = float_at part (at + 4); z = float_at part (at + 8) }

unfoldable pub quat_at : List ℕ → ℕ → Quat
quat_at part at = record { x = float_at part at; y = float_at part (at + 4); z = float_at part (at + 8); w = float_at part (at + 12) }

unfoldable pub wide_at : List ℕ → ℕ → Bool
wide_at part at = outside (float_at part at) (neg f7) f7 || outside (float_at part (at + 4)) (neg f7) f7

unfoldable pub limit_at : List ℕ → ℕ → Bool
limit_at part at = lt (float_at part (at + 4)) (float_at part at)

unfoldable pub norms_at : List ℕ → Bool → Bool → Bool
norms_at part bases axis = bases && (off_unit (norm_squared_of (quat_at part 27)) || off_unit (norm_squared_of (quat_at part 43))) || axis && off_unit (length_squared_of (vec3_at part 59))

-- ---- by the numbers of a record

unfoldable pub header_bits : List ℕ → HeaderBits
header_bits ns = record { bodies = at 1 ns; joints = at 2 ns; rate = at 3 ns; zero = at 4 ns }

unfoldable pub body_bits : List ℕ → BodyBits
body_bits ns =
    record { anchored = flag 0 ns; lock_x = flag 1 ns; lock_y = flag 2 ns; lock_z = flag 3 ns; dominance = at 4 ns; zero = at 5 ns }

unfoldable pub joint_bits : List ℕ → JointBits
joint_bits ns =
    record { kind = at 0 ns; body1 = at 1 ns; body2 = at 2 ns; first = flag 3 ns; second = flag 4 ns; motor = at 5 ns; zero = at 6 ns }

abbrev pub kind_with : Bool → Bool → Bool → ℕ → Bool → JointKind
kind_with b a g c f = record { bases = b; axis = a; angles = g; compliances = c; fits = f }

unfoldable pub kind_for : ℕ → Bool → Bool → Bool → JointKind
kind_for k first second motor =
    let r = kind_at k in
    kind_with r.bases r.axis r.angles r.compliances (r.fits first second motor)

unfoldable pub any_to : (ℕ → Bool) → ℕ → Bool
any_to p n = list_any p (range_with_len 0 n)

-- word n of those at a place is set, or is out of bounds
unfoldable pub set_at : List ℕ → ℕ → ℕ → Bool
set_at part at n = not (eqb (bits_at part (8 * at + 32 * n) 32) 0)

unfoldable pub outside_at : List ℕ → Float → Float → ℕ → ℕ → Bool
outside_at part low high at n = outside (f32 (bits_at part (8 * at + 32 * n) 32)) low high

abbrev pub faults : Bool → Bool → Bool → Bool → Bool → Bool → Faults
faults b d f g l n = record { bits = b; dominance = d; floats = f; angles = g; limits = l; norms = n }

unfoldable pub or_faults : Faults → Faults → Faults
or_faults a b = faults (a.bits || b.bits) (a.dominance || b.dominance) (a.floats || b.floats) (a.angles || b.angles) (a.limits || b.limits) (a.norms || b.norms)

unfoldable pub field_faults : Faults → List ℕ → Bool → Float → Float → ℕ → ℕ → Faults
field_faults f part used low high at count =
    faults (f.bits || any_to (λ n. not used && set_at part at n) count) f.dominance (f.floats || any_to (λ n. outside_at part low high at n && used) count) f.angles f.limits f.norms

-- with those of the breaking load, in an edition that has it
unfoldable pub breaking_load_faults : Faults → List ℕ → named.Edition → Faults
breaking_load_faults f part One = f
breaking_load_faults f part Two = f
breaking_load_faults f part Three = field_faults f part true f0 largest 123 1

-- a number that has use is out of range: what is left of check 7 once check 6 has passed
abbrev pub used_out : List Cell → List ℕ → Bool
used_out cs ns = any_cell (λ c n. out_of c.range n && c.used ns) cs ns

unfoldable pub header_faults : List Cell → List ℕ → Faults
header_faults cs ns = faults (unused_set cs ns) false (used_out cs ns) false false false

unfoldable pub body_faults : List ℕ → Faults
body_faults ns = faults (unused_set body ns) (dominant ns) (used_out body ns) false false (off_unit (norm_squared_of (quat ns 9)))

unfoldable pub joint_faults : List Cell → List ℕ → Faults
joint_faults cs ns = faults (unused_set cs ns || misfit ns) false (used_out cs ns) (too_wide ns) (reversed 28 ns || reversed 30 ns) (off_axis ns)

unfoldable pub faults_of : (List ℕ → Faults) → List (List ℕ) → Faults
faults_of f l = faults (any (λ r. (f r).bits) l) (any (λ r. (f r).dominance) l) (any (λ r. (f r).floats) l) (any (λ r. (f r).angles) l) (any (λ r. (f r).limits) l) (any (λ r. (f r).norms) l)
