-- What a card that no check refuses has, as far as proofs read it: proofs/Accepted.antt shows it from check_of card ≡ 0.
use Rattle.std.specs.Prelude.{ℕ, ◌+◌, ◌*◌, ◌≤◌, ◌<◌, ◌≡◌, List, [], map, length, get_or, T, Float}
use Rattle.std.specs.Float.{binary32}
use Rattle.std.specs.Float.Ieee.{fits, le, neg}
use Rattle.std.specs.Float.Ieee.Scale.{finite}
use Rattle.scalar.specs.Arith.{f32, f0, f7}
use Rattle.scalar.specs.Scalar.{abs_of}
use Rattle.card.specs.Format.{Range}
use Rattle.card.specs.Format.{Any, Bounded, NotNegative, Cap}
use Rattle.card.specs.Format.{bits_at, bound, Cell, width_of}
use Rattle.card.specs.Card.{at, body, kinds, kind_of, Edition, editions, edition_at, Card, card_of, float}

-- a finite f32, not below another
pub record Real (low x : Float) : Type 0 where
  pub held : T (fits binary32 x) × T (finite x)
  pub above : T (le low x)

abbrev pub In : Range → ℕ → Type 0
In Any n = Unit
In Bounded n = Real (neg bound) (f32 n)
In NotNegative n = Real f0 (f32 n)
In Cap n = Real f0 (f32 n)

abbrev pub range_at : List Cell → ℕ → Range
range_at cs k = get_or (map (λ c. c.range) cs) k Any

-- each number of a record is in the range of its cell
abbrev pub Ranged : List Cell → List ℕ → Type 0
Ranged cs ns = (k : ℕ) → In (range_at cs k) (at k ns)

-- a limit's min, number k, and its max are at most 7 in size
abbrev pub Narrow : ℕ → List ℕ → Type 0
Narrow k j = T (le (abs_of (float j k)) f7) × T (le (abs_of (float j (k + 1))) f7)

pub record AcceptedJoint (cs : List Cell) (bodies : ℕ) (j : List ℕ) : Type 0 where
  pub ranged : Ranged cs j
  pub kind : at 0 j < length kinds
  pub body1 : at 1 j < bodies
  pub body2 : at 2 j < bodies
  pub angles : T (kind_of j).angles → Narrow 28 j × Narrow 30 j

pub record AcceptedCard (e : Edition) (c : Card) : Type 0 where
  pub bodies : length c.bodies ≡ at 1 c.header
  pub joints : length c.joints ≡ at 2 c.header
  pub few_bodies : at 1 c.header ≤ e.most
  pub few_joints : at 2 c.header ≤ e.most
  pub least_rate : 16 ≤ at 3 c.header
  pub most_rate : at 3 c.header ≤ e.fastest
  pub header : Ranged e.header c.header
  pub body : (i : ℕ) → i < length c.bodies → Ranged body (get_or c.bodies i [])
  pub joint : (i : ℕ) → i < length c.joints → AcceptedJoint e.joint (length c.bodies) (get_or c.joints i [])

pub record Accepted (card : List ℕ) : Type 0 where
  pub edition : (1 ≤ bits_at card 0 8) × (bits_at card 0 8 ≤ length editions)
  pub enough : width_of (edition_at card).header + width_of body * at 1 (card_of card).header + width_of (edition_at card).joint * at 2 (card_of card).header ≤ 8 * length card
  pub has : AcceptedCard (edition_at card) (card_of card)
