-- Document 01, 'State' and 'Turned back', 11 and 12, and document 02, point 11: 13 numbers for each body, then 13 for each joint; its start, and a call that writes it.
use Rattle.std.specs.Prelude.{ℕ, ◌+◌, ◌*◌, Bool, false, not, ◌||◌, List, [], ◌∷◌, ◌++◌, map, length, eqb, Float, if◌then◌else◌, Result, Ok, Err}
use Rattle.std.specs.Float.Ieee.{neg, eq}
use Rattle.scalar.specs.Arith.{f0, f1}
use Rattle.scalar.specs.Scalar.{bits_of, is_finite, outside}
use Rattle.vector.specs.declared.Vec3.{Vec3}
use Rattle.solver_body.specs.Body.{position_bound}
use Rattle.solver_body.specs.declared.BodyState.{BodyState}
use Rattle.xpbd_joints.specs.Steps.{no_totals}
use Rattle.xpbd_joints.specs.declared.JointTotals.{JointTotals}
use Rattle.numbers.specs.Lists.{all, concat, each}
use Rattle.numbers.specs.Numbers.{numbers3, numbers4, number_in, vec3_in, quat_in}
use Rattle.card.specs.declared.refusal.Refusal as answer
use Rattle.card.specs.Answer.{refusal_number}
use Rattle.card.specs.Card.{edition_at, Card, card_of}
use Rattle.card.specs.Checks.{any, Refusal, refuse, first_of, card_checks, check_of}
use Rattle.loader.specs.Linkage.{start_body}
use Rattle.state.specs.declared.places.JointState.{JointState}
use Rattle.state.specs.declared.sizes.CardSizes.{CardSizes}

abbrev pub body_numbers : ℕ
body_numbers = 13

-- a joint's totals have 12 numbers, and its mark is the 13th
abbrev pub total_numbers : ℕ
total_numbers = 12

abbrev pub joint_numbers : ℕ
joint_numbers = 13

abbrev pub state_length : ℕ → ℕ → ℕ
state_length bodies joints = body_numbers * bodies + joint_numbers * joints

-- ---- reading and writing

-- a body from a place on: position, rotation, linear and angular velocity
unfoldable pub body_from : List Float → ℕ → BodyState
body_from s at =
    record { position = vec3_in s at; rotation = quat_in s (at + 3); linear_velocity = vec3_in s (at + 7); angular_velocity = vec3_in s (at + 10) }

-- a joint's four totals
unfoldable pub totals_from : List Float → ℕ → JointTotals
totals_from s at = record { first = vec3_in s at; second = vec3_in s (at + 3); third = vec3_in s (at + 6); fourth = vec3_in s (at + 9) }

-- behind them its mark: 1 for broken
abbrev pub mark_from : List Float → ℕ → Float
mark_from s at = number_in s (at + total_numbers)

abbrev pub joint_from : List Float → ℕ → JointState
joint_from s at = record { totals = totals_from s at; broken = eq (mark_from s at) f1 }

-- body i
abbrev pub body_at : List Float → ℕ → BodyState
body_at s i = body_from s (body_numbers * i)

-- joint j's totals, behind so many bodies
abbrev pub totals_at : ℕ → List Float → ℕ → JointTotals
totals_at bodies s j = totals_from s (state_length bodies j)

abbrev pub mark_at : ℕ → List Float → ℕ → Float
mark_at bodies s j = mark_from s (state_length bodies j)

unfoldable pub broken_at : ℕ → List Float → ℕ → Bool
broken_at bodies s j = eq (mark_at bodies s j) f1

abbrev pub numbers_of : BodyState → List Float
numbers_of b = numbers3 b.position ++ numbers4 b.rotation ++ numbers3 b.linear_velocity ++ numbers3 b.angular_velocity

abbrev pub totals_numbers : JointTotals → List Float
totals_numbers t = numbers3 t.first ++ numbers3 t.second ++ numbers3 t.third ++ numbers3 t.fourth

-- 0 for whole
abbrev pub mark_of : Bool → Float
mark_of broken = if broken then f1 else f0

abbrev pub joint_numbers_of : JointState → List Float
joint_numbers_of k = totals_numbers k.totals ++ (mark_of k.broken ∷ [])

abbrev pub state_of : List BodyState → List JointState → List Float
state_of bodies joints = concat (map numbers_of bodies) ++ concat (map joint_numbers_of joints)

-- totals zero, and whole
abbrev pub start_joint : JointState
start_joint = record { totals = no_totals; broken = false }

-- the card's numbers
unfoldable pub start_state : Card → List Float
start_state c = state_of (map start_body c.bodies) (map (λ j. start_joint) c.joints)

-- ---- refusals

-- a coordinate of a position is over 4,096 in size
abbrev pub far : Float → Bool
far x = outside x (neg position_bound) position_bound

abbrev pub far_away : Vec3 → Bool
far_away p = far p.x || far p.y || far p.z

-- a number is not finite, or a body is too far away
unfoldable pub bad_numbers : ℕ → List Float → Bool
bad_numbers bodies s = not (all is_finite s) || any (λ b. far_away b.position) (each (body_at s) bodies)

-- its bits are neither those of 0 nor those of 1
unfoldable pub bad_mark : Float → Bool
bad_mark x = not (eqb (bits_of x) 0 || eqb (bits_of x) 0x3f800000)

unfoldable pub bad_marks : ℕ → ℕ → List Float → Bool
bad_marks bodies joints s = any bad_mark (each (mark_at bodies s) joints)

-- 1 to 11
abbrev pub start_checks : List ℕ → List Float → List Refusal
start_checks bytes s =
    let c = card_of bytes in
    card_checks (edition_at bytes) bytes c ++ (refuse 11 (not (eqb (length s) (state_length (length c.bodies) (length c.joints)))) ∷ [])

-- 1 to 12, and 21
abbrev pub state_checks : List ℕ → List Float → List Refusal
state_checks bytes s =
    let c = card_of bytes in
    start_checks bytes s ++ (refuse 12 (bad_numbers (length c.bodies) s) ∷ refuse 21 (bad_marks (length c.bodies) (length c.joints) s) ∷ [])

-- ---- a call that writes the state

-- the number that it answers, and the state after it
pub record Answered : Type 0 where
  pub number : ℕ
  pub state : List Float

abbrev pub answered : ℕ → List Float → Answered
answered n s = record { number = n; state = s }

-- the first refusal that applies and the state as it was, or 0 and the new state
abbrev pub unless_refused : List Refusal → List Float → List Float → Answered
unless_refused checks s new = answered (first_of checks) (if eqb (first_of checks) 0 then new else s)

unfoldable pub start_of : List ℕ → List Float → Answered
start_of bytes s = unless_refused (start_checks bytes s) s (start_state (card_of bytes))

-- ---- how large a card's state is

pub record Sizes : Type 0 where
  pub number : ℕ
  pub bodies : ℕ
  pub joints : ℕ
  pub state : ℕ

abbrev pub sized : ℕ → ℕ → ℕ → Sizes
sized n b j = record { number = n; bodies = b; joints = j; state = state_length b j }

-- as a call answers them
abbrev pub sizes_answered : Result CardSizes answer.Refusal → Sizes
sizes_answered (Ok s) = record { number = 0; bodies = s.bodies; joints = s.joints; state = s.state }
sizes_answered (Err refusal) = sized (refusal_number refusal) 0 0

-- zeros where the card is refused
unfoldable pub sizes_of : List ℕ → Sizes
sizes_of bytes =
    let c = card_of bytes in
    if eqb (check_of bytes) 0 then sized 0 (length c.bodies) (length c.joints) else sized (check_of bytes) 0 0
