-- Document 01, 'The card': the numbers of header, body and joint in order, by edition; the kinds of joint; a card as lists of numbers.
use Rattle.std.specs.Prelude.{ℕ, ◌+◌, ◌*◌, ◌-◌, Bool, true, false, not, ◌&&◌, List, [], ◌∷◌, ◌++◌, get_or, replicate, eqb, ltb, Float}
use Rattle.scalar.specs.Arith.{f32}
use Rattle.vector.specs.declared.Vec3.{Vec3}
use Rattle.vector.specs.declared.Quat.{Quat}
use Rattle.card.specs.Format.{Range}
use Rattle.card.specs.Format.{Any, Bounded, NotNegative, Cap}
use Rattle.card.specs.Format.{bits_at, Cell, width_of, numbers_at, records_at}

abbrev pub at : ℕ → List ℕ → ℕ
at k ns = get_or ns k 0

abbrev pub flag : ℕ → List ℕ → Bool
flag k ns = eqb (at k ns) 1

abbrev pub always : List ℕ → Bool
always ns = true

abbrev pub never : List ℕ → Bool
never ns = false

abbrev pub bits : ℕ → (List ℕ → Bool) → List Cell
bits width used = record { width = width; used = used; range = Any } ∷ []

abbrev pub floats : ℕ → (List ℕ → Bool) → Range → List Cell
floats n used range = replicate n (record { width = 32; used = used; range = range })

-- edition 0, bodies 1, joints 2, rate 3, zero; gravity along y 5, warm coefficient 6
abbrev pub header : ℕ → ℕ → ℕ → List Cell
header counts rate zeros =
    bits 8 always ++ bits counts always ++ bits counts always ++ bits rate always ++ bits zeros never
    ++ floats 1 always Bounded ++ floats 1 always NotNegative

abbrev pub moving : List ℕ → Bool
moving ns = not (flag 0 ns)

-- anchored 0, locks x y z 1, dominance 4, zero; position 6, rotation 9, centre of mass 13; velocities 16 and 19, inverse mass 22, inverse inertia 23
abbrev pub body : List Cell
body =
    bits 1 always ++ bits 1 moving ++ bits 1 moving ++ bits 1 moving ++ bits 8 moving ++ bits 4 never
    ++ floats 10 always Bounded ++ floats 6 moving Bounded ++ floats 1 moving NotNegative ++ floats 6 moving Bounded

-- a kind of joint: whether it has bases and an axis, whether its limits are angles, how many compliances, and whether a first limit, a second limit and a motor fit, being there or not
pub record Kind : Type 0 where
  pub bases : Bool
  pub axis : Bool
  pub angles : Bool
  pub compliances : ℕ
  pub fits : Bool → Bool → Bool → Bool

abbrev kind : Bool → Bool → Bool → ℕ → (Bool → Bool → Bool → Bool) → Kind
kind b a g c f = record { bases = b; axis = a; angles = g; compliances = c; fits = f }

-- fixed, hinge, slide, ball, tether
abbrev pub kinds : List Kind
kinds =
    kind true false false 2 (λ first second motor. not first && not second && not motor)
    ∷ kind true true true 3 (λ first second motor. not second)
    ∷ kind true true false 2 (λ first second motor. not second)
    ∷ kind true true true 3 (λ first second motor. not motor)
    ∷ kind false false false 1 (λ first second motor. first && not second && not motor)
    ∷ []

-- nothing fits above them
abbrev pub no_kind : Kind
no_kind = kind false false false 0 (λ first second motor. false)

unfoldable pub kind_at : ℕ → Kind
kind_at k = get_or kinds k no_kind

abbrev pub kind_of : List ℕ → Kind
kind_of ns = kind_at (at 0 ns)

abbrev pub compliant : ℕ → List ℕ → Bool
compliant n ns = ltb n (kind_of ns).compliances

abbrev pub motored : List ℕ → Bool
motored ns = not (eqb (at 5 ns) 0)

-- kind 0, bodies 1 and 2, first and second limit 3 and 4, motor 5, zero; anchors 7 and 10, bases 13 and 17, axis 21, compliances 24, limits 28 and 30,
-- motor 32: target velocity, target position, cap, two model floats; what the edition has more: breaking load 37
abbrev pub joint : ℕ → ℕ → List Cell → List Cell
joint numbers zeros more =
    bits 3 always ++ bits numbers always ++ bits numbers always ++ bits 1 always ++ bits 1 always ++ bits 2 always ++ bits zeros never
    ++ floats 6 always Bounded
    ++ floats 8 (λ ns. (kind_of ns).bases) Bounded
    ++ floats 3 (λ ns. (kind_of ns).axis) Bounded
    ++ floats 1 (compliant 0) NotNegative ++ floats 1 (compliant 1) NotNegative ++ floats 1 (compliant 2) NotNegative ++ floats 1 (compliant 3) NotNegative
    ++ floats 2 (flag 3) Bounded ++ floats 2 (flag 4) Bounded
    ++ floats 2 motored Bounded ++ floats 1 motored Cap ++ floats 2 motored Bounded
    ++ more

pub record Edition : Type 0 where
  pub header : List Cell
  pub joint : List Cell
  pub most : ℕ
  pub fastest : ℕ

abbrev pub edition : List Cell → List Cell → ℕ → ℕ → Edition
edition h j most fastest = record { header = h; joint = j; most = most; fastest = fastest }

-- from 1 on, the second by document 02, point 4, the third by its point 11: header, joint, most bodies and joints, fastest rate
abbrev pub editions : List Edition
editions =
    edition (header 6 10 2) (joint 5 7 []) 32 1000
    ∷ edition (header 8 16 24) (joint 8 1 []) 200 4000
    ∷ edition (header 8 16 24) (joint 8 1 (floats 1 always Cap)) 200 4000
    ∷ []

-- one that is not listed is refused, whatever is read of it
unfoldable pub edition_of : ℕ → Edition
edition_of n = get_or editions (n - 1) (edition [] [] 0 0)

-- a card: the numbers of its header, of each body and of each joint
pub record Card : Type 0 where
  pub header : List ℕ
  pub bodies : List (List ℕ)
  pub joints : List (List ℕ)

abbrev pub edition_at : List ℕ → Edition
edition_at card = edition_of (bits_at card 0 8)

unfoldable pub card_of : List ℕ → Card
card_of card =
    let e = edition_at card in
    let h = numbers_at e.header card 0 in
    record {
      header = h;
      bodies = records_at body card (width_of e.header) (at 1 h);
      joints = records_at e.joint card (width_of e.header + width_of body * at 1 h) (at 2 h);
    }

-- ---- floats among the numbers of a record

abbrev pub float : List ℕ → ℕ → Float
float ns k = f32 (at k ns)

abbrev pub vec3 : List ℕ → ℕ → Vec3
vec3 ns k = record { x = float ns k; y = float ns (k + 1); z = float ns (k + 2) }

abbrev pub quat : List ℕ → ℕ → Quat
quat ns k = record { x = float ns k; y = float ns (k + 1); z = float ns (k + 2); w = float ns (k + 3) }
