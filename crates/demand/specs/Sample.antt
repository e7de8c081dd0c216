-- Ticks that demand 3 speaks of, computed: an event of each stage and each motor, on a card for each kind of joint.
use Rattle.std.specs.Prelude.{ℕ, ◌/◌, ◌%◌, ◌≡◌, List, [], ◌∷◌, ◌++◌, map, replicate, take, drop, Float}
use Rattle.scalar.specs.Arith.{f32, f1}
use Rattle.xpbd_joints.specs.Stage.{point, angle, hinge_align, hinge_limit, slide_align, swing, twist, tether, multiplier_of}
use Rattle.xpbd_joints.specs.Steps.{Event, a_stage, a_push, push_multiplier}
use Rattle.card.specs.Card.{card_of}
use Rattle.loader.specs.Linkage.{linkage_of}
use Rattle.state.specs.State.{start_state}
use Rattle.tick.specs.Tick.{turned_linkage, events_at}
use Rattle.tick.specs.Run.{tick_of}

-- floats by their bits
abbrev floats : List ℕ → List ℕ
floats [] = []
floats (w ∷ l) = w / 0x100_0000 ∷ w / 0x1_0000 % 256 ∷ w / 256 % 256 ∷ w % 256 ∷ floats l

abbrev zeros : ℕ → List ℕ
zeros n = replicate n 0

abbrev one : ℕ
one = 0x3f80_0000

-- edition 1, rate 16; an anchored body at the origin, one at (2, 1, 0), a third of a turn about (1, 1, 1), of inverse mass and inertia 1; a joint's bits and numbers
abbrev card : List ℕ → List ℕ → List ℕ
card bits numbers =
    (1 ∷ 0x08 ∷ 0x10 ∷ 0x40 ∷ []) ++ floats (zeros 2) ++ (0x80 ∷ 0 ∷ []) ++ floats (zeros 6 ++ one ∷ zeros 16) ++ (0 ∷ 0 ∷ [])
    ++ floats (0x4000_0000 ∷ one ∷ 0 ∷ replicate 4 0x3f00_0000 ++ zeros 9 ++ one ∷ one ∷ 0 ∷ 0 ∷ one ∷ 0 ∷ one ∷ [])
    ++ bits
    ++ floats numbers

-- at both origins along z, rigid, with limits of zero; a motor of target velocity 1,024, cap 256, damping 1
abbrev along_z : List ℕ → List ℕ
along_z motor = zeros 9 ++ one ∷ zeros 3 ++ one ∷ 0 ∷ 0 ∷ one ∷ zeros 8 ++ motor

abbrev motor : List ℕ
motor = 0x4480_0000 ∷ 0 ∷ 0x4380_0000 ∷ 0 ∷ one ∷ []

-- of angle compliance α
abbrev pub fixed_card : ℕ → List ℕ
fixed_card α = card (0 ∷ 0x08 ∷ 0 ∷ []) (zeros 9 ++ one ∷ zeros 3 ++ one ∷ zeros 4 ++ α ∷ zeros 11)

abbrev pub hinge_card : List ℕ
hinge_card = card (0x20 ∷ 0x0d ∷ 0x80 ∷ []) (along_z motor)

abbrev pub slide_card : List ℕ
slide_card = card (0x40 ∷ 0x0d ∷ 0x80 ∷ []) (along_z motor)

abbrev pub ball_card : List ℕ
ball_card = card (0x60 ∷ 0x0e ∷ 0 ∷ []) (along_z (zeros 5))

-- at most 1 long
abbrev pub tether_card : List ℕ
tether_card = card (0x80 ∷ 0x0c ∷ 0 ∷ []) (zeros 22 ++ one ∷ zeros 7)

-- what a tick from the start state answers and does
abbrev answer_on : List ℕ → ℕ
answer_on bytes = (tick_of bytes (start_state (card_of bytes))).number

abbrev pub events_on : List ℕ → List Event
events_on bytes = let s = start_state (card_of bytes) in events_at (turned_linkage (linkage_of (card_of bytes)) s) s 0

abbrev pub multiplier_in : Event → Float
multiplier_in (a_stage s) = multiplier_of s
multiplier_in (a_push p) = push_multiplier p.given

-- a stage's name as a number, 8 for a motor's push
abbrev pub name_of : Event → ℕ
name_of (a_stage s) = elim s.reads [ point a b d ↦ 0 | angle q ↦ 1 | hinge_align a b ↦ 2 | hinge_limit o a b c ↦ 3 | slide_align o a b d c ↦ 4 | swing o a b ↦ 5 | twist o a b c d ↦ 6 | tether l a b d ↦ 7 ]
name_of (a_push p) = 8

pub record Sample : Type 0 where
  pub done : map answer_on (fixed_card 0 ∷ hinge_card ∷ slide_card ∷ ball_card ∷ tether_card ∷ []) ≡ zeros 5
  -- each kind's events, in order
  pub fixed : map name_of (events_on (fixed_card 0)) ≡ 1 ∷ 0 ∷ []
  pub hinge : map name_of (events_on hinge_card) ≡ 2 ∷ 8 ∷ 3 ∷ 0 ∷ []
  pub slide : map name_of (events_on slide_card) ≡ 1 ∷ 8 ∷ 4 ∷ []
  pub ball : map name_of (events_on ball_card) ≡ 0 ∷ 5 ∷ 6 ∷ []
  pub tethered : map name_of (events_on tether_card) ≡ 7 ∷ []
  -- the hinge's motor at its cap: 256 / 16 / 16
  pub capped : map multiplier_in (take 1 (drop 1 (events_on hinge_card))) ≡ f1 ∷ []
  -- one stage at the compliances 0 and 2^-8: the softer's multiplier is about half
  pub stiff : map multiplier_in (take 1 (events_on (fixed_card 0))) ≡ f32 0xbfdd_b3d8 ∷ []
  pub softer : map multiplier_in (take 1 (events_on (fixed_card 0x3b80_0000))) ≡ f32 0xbf5d_b3d7 ∷ []
