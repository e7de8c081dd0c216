-- Document 02, point 5: the choice of inertias by dominance that a tick had, as a definition for one theorem: on each card that no check refuses it chooses nothing.
use Rattle.std.specs.Prelude.{ℕ, ◌≡◌, Bool, List, [], get_or, ltb, ℤ, pos, ◌-ℤ◌, Float, if◌then◌else◌}
use Rattle.std.specs.Int.Signed.{lt_z}
use Rattle.solver_body.specs.Body.{dummy_inertia}
use Rattle.solver_body.specs.declared.SolverBodyInertia.{SolverBodyInertia}
use Rattle.xpbd_joints.specs.Stage.{Setting}
use Rattle.card.specs.Card.{at, flag, Card, card_of}
use Rattle.card.specs.Checks.{check_of}
use Rattle.loader.specs.Linkage.{Linkage, linkage_of}
use Rattle.tick.specs.Tick.{body, joint, setting, turned_linkage}

-- of a body's numbers: eight bits as a signed number; an anchored body's is above every i8
abbrev pub dominance_of : List ℕ → ℤ
dominance_of b = let d = at 4 b in if flag 0 b then pos 128 else if ltb d 128 then pos d else (pos d -ℤ pos 256)

-- a body of higher dominance counts as fixed
abbrev pub dominated : ℤ → ℤ → SolverBodyInertia → SolverBodyInertia → SolverBodyInertia × SolverBodyInertia
dominated d₁ d₂ i₁ i₂ = if lt_z d₂ d₁ then (dummy_inertia, i₂) else if lt_z d₁ d₂ then (i₁, dummy_inertia) else (i₁, i₂)

-- what stayed through joint j's warm start and its solve
abbrev pub former_setting : Card → Linkage → Bool → ℕ → Setting
former_setting c K motors j =
    let k = joint K j in
    let d : ℕ → ℤ = (λ i. dominance_of (get_or c.bodies i [])) in
    let i = dominated (d k.body1) (d k.body2) (body K k.body1).inertia (body K k.body2).inertia in
    record { dt = K.dt; motors = motors; inertia1 = i.0; inertia2 = i.1 }

pub record DominanceGone : Type 0 where
  -- both dominances zero, or one body anchored
  pub both_zero : (i₁ i₂ : SolverBodyInertia) → dominated (pos 0) (pos 0) i₁ i₂ ≡ (i₁, i₂)
  pub first_anchored : (i₂ : SolverBodyInertia) → dominated (pos 128) (pos 0) dummy_inertia i₂ ≡ (dummy_inertia, i₂)
  pub second_anchored : (i₁ : SolverBodyInertia) → dominated (pos 0) (pos 128) i₁ dummy_inertia ≡ (i₁, dummy_inertia)
  -- as functions of the joint, so that whatever a tick makes of them, from any state, stopped or not, is as before
  pub as_before :
      (card : List ℕ) → check_of card ≡ 0 → (s : List Float) → let K = turned_linkage (linkage_of (card_of card)) s in former_setting (card_of card) K ≡ setting K
