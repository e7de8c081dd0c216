-- What the parts of the converter hand to each other, for their own contracts: the definitions that are read need none of it.
use Rattle.std.specs.Prelude.{ℕ, ◌+◌, ◌*◌, ◌-◌, ◌/◌, ◌^◌, ◌<◌, Bool, cond, ◌||◌, List, [], ◌∷◌, ◌++◌, map, take, ltb}
use Rattle.numbers.specs.Lists.{concat}
use Rattle.card.specs.Format.{width_of, records_at}
use Rattle.card.specs.Card.{body, Edition, edition_of}
use Rattle.card.specs.declared.records.HeaderBits.{HeaderBits}
use Rattle.card.specs.declared.records.JointBits.{JointBits}
use Rattle.convert.specs.Convert.{packed, bytes_of, record_bytes}

-- ---- the bits before a record's floats

-- numbers that are read of a header and of a joint of some edition
pub record SmallHeader (h : HeaderBits) : Type 0 where
  pub bodies : h.bodies < 2 ^ 8
  pub joints : h.joints < 2 ^ 8
  pub rate : h.rate < 2 ^ 16
  pub zero : h.zero < 2 ^ 24

pub record SmallJoint (j : JointBits) : Type 0 where
  pub kind : j.kind < 2 ^ 3
  pub body1 : j.body1 < 2 ^ 8
  pub body2 : j.body2 < 2 ^ 8
  pub motor : j.motor < 2 ^ 2
  pub zero : j.zero < 2 ^ 7

abbrev pub bit_of : Bool → ℕ
bit_of b = cond b 1 0

-- as bytes of edition n
unfoldable pub header_start : ℕ → HeaderBits → List ℕ
header_start n h = bytes_of (width_of (edition_of n).header / 8 - 8) (packed (take 5 (edition_of n).header) (n ∷ h.bodies ∷ h.joints ∷ h.rate ∷ h.zero ∷ []))

-- as one number of edition n
unfoldable pub joint_start : ℕ → JointBits → ℕ
joint_start n j = packed (take 7 (edition_of n).joint) (j.kind ∷ j.body1 ∷ j.body2 ∷ bit_of j.first ∷ bit_of j.second ∷ j.motor ∷ j.zero ∷ [])

-- ---- bodies and joints

-- so many of each, from bit p of a card of one edition on, as bytes of another
unfoldable pub rows_bytes : Edition → Edition → List ℕ → ℕ → ℕ → ℕ → List ℕ
rows_bytes from to card p bodies joints =
    concat (map (record_bytes body) (records_at body card p bodies))
    ++ concat (map (record_bytes to.joint) (records_at from.joint card (p + width_of body * bodies) joints))

-- ---- a card with such a header in edition n

unfoldable pub length_in : ℕ → HeaderBits → ℕ
length_in n h = let e = edition_of n in width_of e.header / 8 + 94 * h.bodies + width_of e.joint / 8 * h.joints

unfoldable pub too_large_in : ℕ → HeaderBits → Bool
too_large_in n h = let e = edition_of n in ltb e.most h.bodies || ltb e.most h.joints || ltb e.fastest h.rate
