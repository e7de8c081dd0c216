-- Document 02, point 8: whatever the state and the tick, the turn by a limit's clamped angle is within what the sine takes.
use Rattle.std.specs.Prelude.{ℕ, ◌<◌, ◌≡◌, List, [], length, get_or}
use Rattle.joints.specs.Reach.{TurnsInReach, EachAngleLimit}
use Rattle.card.specs.Card.{card_of}
use Rattle.card.specs.Checks.{check_of}
use Rattle.loader.specs.Linkage.{joint_of, linkage_of}

-- of a card that no check refuses, each angle limit of each joint, for every angle
abbrev pub LimitsInReach : Type 0
LimitsInReach =
    (card : List ℕ) → check_of card ≡ 0
    → let joints = (linkage_of (card_of card)).joints in
    (j : ℕ) → j < length joints → EachAngleLimit TurnsInReach (get_or joints j (joint_of [])).joint
