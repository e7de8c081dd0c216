-- What a turned linkage has.
use Prim.Native.Nat.{ℕ, ◌≤◌, ◌<◌}
use mathlib.Core.Path.{◌≡◌, refl, ap, ◌∙◌}
use mathlib.Core.List.{List, []}
use lib.ListN.{length, get_or, length-map}
use lib.Ieee.{Float}
use Rattle.numbers.specs.Lists.{after}
use Rattle.std.proofs.lemmas.List.{get_or_default}
use Rattle.numbers.proofs.Loops.{after_done}
use Rattle.numbers.proofs.Rows.{each_length, each_at, fill, fill_each}
use Rattle.solver_body.specs.declared.BodyState.{BodyState}
use Rattle.card.specs.Card.{Card}
use Rattle.loader.specs.Linkage.{Linkage, body_of, joint_of, linkage_of}
use Rattle.loader.specs.declared.body.LinkBody.{LinkBody}
use Rattle.state.specs.State.{body_at}
use Rattle.tick.specs.Body.{turned_body}
use Rattle.tick.specs.Tick.{body, turned_linkage}

module _ (K : Linkage) (s : List Float) where
  abbrev pub turned_at : ℕ → LinkBody
  turned_at i = turned_body (body_at s i).rotation (body K i)

  pub bodies_turned : length (turned_linkage K s).bodies ≡ length K.bodies
  unfolding turned_linkage
  bodies_turned = each_length turned_at (length K.bodies)

  pub joints_turned : (turned_linkage K s).joints ≡ K.joints
  unfolding turned_linkage
  joints_turned = refl

  pub body_turned : (i : ℕ) → i < length K.bodies → body (turned_linkage K s) i ≡ turned_at i
  unfolding turned_linkage
  body_turned i h = each_at turned_at (length K.bodies) i (body_of []) h

  -- as the code reads and turns it
  pub turned_is : (i : ℕ) → i < length K.bodies → {q : BodyState} → q ≡ body_at s i → (d : LinkBody) {b : LinkBody} → b ≡ turned_body q.rotation (get_or K.bodies i d) → b ≡ turned_at i
  turned_is i h eq d e = e ∙ rw (eq, get_or_default K.bodies i d (body_of []) h)

  -- a slice that is filled with them
  pub turned_done : (l : List LinkBody) → length l ≡ length K.bodies → {i : ℕ} {t : List LinkBody} → t ≡ after (fill turned_at) l i → i ≤ length K.bodies → length K.bodies ≤ i → t ≡ (turned_linkage K s).bodies
  unfolding turned_linkage
  turned_done l e inv a b = after_done (fill turned_at) l inv a b ∙ fill_each turned_at l (turned_at 0) (length K.bodies) e

  pub turned_as : {bs : List LinkBody} → bs ≡ (turned_linkage K s).bodies
      → ◌≡◌ {A = Linkage} (record { dt = K.dt; gravity = K.gravity; warm_coefficient = K.warm_coefficient; bodies = bs; joints = K.joints }) (turned_linkage K s)
  unfolding turned_linkage
  turned_as e = rw e refl

-- ---- of a card

pub card_bodies : (c : Card) (s : List Float) → length (turned_linkage (linkage_of c) s).bodies ≡ length c.bodies
unfolding linkage_of
card_bodies c s = bodies_turned (linkage_of c) s ∙ length-map c.bodies body_of

pub card_joints : (c : Card) (s : List Float) → length (turned_linkage (linkage_of c) s).joints ≡ length c.joints
unfolding linkage_of
card_joints c s = ap length (joints_turned (linkage_of c) s) ∙ length-map c.joints joint_of
