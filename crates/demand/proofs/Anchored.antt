-- After every list of calls an anchored body's 13 numbers are the card's.
use Rattle.std.specs.Prelude.{if◌then◌else◌}
use Prim.Native.Nat.{ℕ, ◌<◌}
use mathlib.Core.Path.{◌≡◌, refl, ap, ◌∙◌}
use mathlib.Core.Bool.{Bool, true, false}
use mathlib.Core.List.{List, [], map, Memᴰ}
use lib.ListN.{length, get_or, length-map, get_or-map}
use lib.Dec.{T}
use lib.Ieee.{Float}
use Rattle.solver_body.specs.declared.BodyState.{BodyState}
use Rattle.numbers.specs.Lists.{each}
use Rattle.numbers.proofs.Rows.{each_length, each_at}
use Rattle.card.specs.Card.{flag, Card, card_of}
use Rattle.loader.specs.Linkage.{Linkage, body_in, body_of, start_body, linkage_of}
use Rattle.state.specs.State.{body_at, numbers_of, start_joint, start_state}
use Rattle.state.proofs.Rows.{body_part, part_read}
use Rattle.tick.specs.Body.{turned_body}
use Rattle.tick.specs.Tick.{turned_linkage, new_body, new_joint, new_state}
use Rattle.tick.proofs.Turning.{body_turned, card_bodies}
use Rattle.demand.specs.Demand.{Call, after_calls, CardOrRefused, AnchoredKept}
use Rattle.demand.proofs.Calls.{calls_leave}

-- ---- the start, and a tick

start_kept : (c : Card) → AnchoredKept c (start_state c)
unfolding start_state
start_kept c i h a =
    body_part (map start_body c.bodies) (map (λ j. start_joint) c.joints) i (start_body []) (rw (length-map c.bodies start_body) h)
    ∙ ap numbers_of (get_or-map start_body c.bodies i [])

chosen : (v : Bool) (a b : BodyState) → T v → (if v then a else b) ≡ a
chosen true a b t = refl
chosen false a b t = absurd t

module _ (c : Card) (s : List Float) where
  abbrev K : Linkage
  K = turned_linkage (linkage_of c) s

  body_kept : (i : ℕ) → i < length c.bodies → T (flag 0 (get_or c.bodies i [])) → new_body K s i ≡ body_at s i
  unfolding new_body linkage_of turned_body body_in
  body_kept i h a =
      rw (body_turned (linkage_of c) s i (rw (length-map c.bodies body_of) h), get_or-map body_of c.bodies i [])
      (chosen (flag 0 (get_or c.bodies i [])) (body_at s i) _ a)

  new_kept : AnchoredKept c s → AnchoredKept c (new_state K s)
  unfolding new_state
  new_kept z i h a =
      let n = length K.bodies in
      let l : i < n = rw (card_bodies c s) h in
      body_part (each (new_body K s) n) (each (new_joint K s) (length K.joints)) i (body_at s i) (rw (each_length (new_body K s) n) l)
      ∙ ap numbers_of (each_at (new_body K s) n i (body_at s i) l ∙ body_kept i h a ∙ part_read s i (start_body (get_or c.bodies i [])) (z i h a))

-- ---- calls

pub anchored_kept : (card : List ℕ) (l : List (Call × List ℕ)) → ((c : Call × List ℕ) → Memᴰ c l → CardOrRefused card c.1) → AnchoredKept (card_of card) (after_calls l (start_state (card_of card)))
anchored_kept card l b =
    let start = start_kept (card_of card) in
    calls_leave (AnchoredKept (card_of card)) card (new_kept (card_of card)) (λ _. Unit) (λ _. start) l (λ c m. (tt, b c m)) (start_state (card_of card)) start
