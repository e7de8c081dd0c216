-- Two cards that no check refuses and that have one linkage tick alike.
use Prim.Native.Nat.{ℕ}
use mathlib.Core.Path.{◌≡◌, sym, ap, ◌∙◌}
use mathlib.Core.Bool.{not}
use mathlib.Core.List.{List, [], ◌∷◌}
use lib.ListN.{length, length-map}
use lib.Dec.{eqb}
use lib.Ieee.{Float}
use Rattle.numbers.proofs.Loops.{after_same}
use Rattle.card.specs.Card.{edition_at, card_of}
use Rattle.card.specs.Checks.{Refusal, refuse, first_of, card_checks, check_of}
use Rattle.card.proofs.Checking.{passed_on}
use Rattle.loader.specs.Linkage.{Linkage, body_of, joint_of, linkage_of}
use Rattle.state.specs.State.{state_length, bad_numbers, bad_marks, Answered, start_checks, unless_refused}
use Rattle.state.proofs.Answers.{unless_later}
use Rattle.tick.specs.Tick.{turned_linkage, new_state, stopped}
use Rattle.tick.specs.Run.{Ran, tick_of, tick_next, run_of}

-- ---- behind the card's own checks

module _ (s : List Float) (bodies joints : ℕ) where
  abbrev eleven : Refusal
  eleven = refuse 11 (not (eqb (length s) (state_length bodies joints)))

  abbrev ticked : Linkage → Answered
  ticked K =
      let L = turned_linkage K s in
      unless_refused (eleven ∷ refuse 12 (bad_numbers bodies s) ∷ refuse 21 (bad_marks bodies joints s) ∷ refuse 13 (stopped L s) ∷ []) s (new_state L s)

module _ (card : List ℕ) (z : check_of card ≡ 0) (s : List Float) where
  abbrev own : List Refusal
  own = card_checks (edition_at card) card (card_of card)

  abbrev bodies : ℕ
  bodies = length (card_of card).bodies

  abbrev joints : ℕ
  joints = length (card_of card).joints

  tick_answer : tick_of card s ≡ ticked s bodies joints (linkage_of (card_of card))
  unfolding tick_of check_of
  tick_answer = unless_later s (new_state (turned_linkage (linkage_of (card_of card)) s) s) own _ tt z

  start_answer : first_of (start_checks card s) ≡ first_of (eleven s bodies joints ∷ [])
  unfolding check_of
  start_answer = passed_on own (eleven s bodies joints ∷ []) tt z

-- ---- two cards

module _ (card other : List ℕ) (z : check_of card ≡ 0) (y : check_of other ≡ 0) (linkage : linkage_of (card_of card) ≡ linkage_of (card_of other)) where
  same_bodies : length (card_of card).bodies ≡ length (card_of other).bodies
  unfolding linkage_of
  same_bodies = sym (length-map (card_of card).bodies body_of) ∙ ap (λ (K : Linkage). length K.bodies) linkage ∙ length-map (card_of other).bodies body_of

  same_joints : length (card_of card).joints ≡ length (card_of other).joints
  unfolding linkage_of
  same_joints = sym (length-map (card_of card).joints joint_of) ∙ ap (λ (K : Linkage). length K.joints) linkage ∙ length-map (card_of other).joints joint_of

  pub same_tick : (s : List Float) → tick_of card s ≡ tick_of other s
  same_tick s = tick_answer card z s ∙ rw (linkage, same_bodies, same_joints) (sym (tick_answer other y s))

  same_next : (i : ℕ) (a : Ran) → tick_next card i a ≡ tick_next other i a
  unfolding tick_next
  same_next i a = rw (same_tick a.state)

  pub same_run : (s : List Float) (n : ℕ) → run_of card s n ≡ run_of other s n
  unfolding run_of
  same_run s n =
      let first : first_of (start_checks card s) ≡ first_of (start_checks other s) = start_answer card z s ∙ rw (same_bodies, same_joints) (sym (start_answer other y s)) in
      rw (first, after_same (tick_next card) (tick_next other) (record { number = first_of (start_checks other s); ticks = 0; state = s }) n (λ i a h. same_next i a))
