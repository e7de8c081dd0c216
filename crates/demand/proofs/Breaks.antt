-- Joints that break: what the new state says of a joint, and that no call but a start makes it whole again.
use Rattle.std.specs.Prelude.{if◌then◌else◌}
use Prim.Native.Nat.{ℕ, zero, suc, ◌+◌, ◌<◌}
use native.Mathlib.Numerals.{add-one}
use mathlib.Core.Path.{◌≡◌, refl, sym, ap, ◌∙◌, subst}
use mathlib.Core.Bool.{Bool, true, false, ◌||◌, or-false, or_assoc}
use mathlib.Core.List.{List, [], map}
use lib.ListN.{length, get_or, length-map, get_or-map}
use lib.Seq.{get_or-set_other}
use lib.Dec.{T, eqb}
use lib.Ieee.{Float, eq, odd, size, span, climb, of_fields, of_bits}
use borrow.Author.Tests.{eqb-true, eq-eqb}
use Rattle.scalar.specs.Arith.{f1}
use Rattle.xpbd_joints.specs.Steps.{no_totals}
use Rattle.numbers.specs.Lists.{each, after}
use Rattle.numbers.proofs.Loops.{after_all}
use Rattle.card.specs.Card.{card_of}
use Rattle.card.specs.Checks.{any, first_of}
use Rattle.loader.specs.Linkage.{Linkage, joint_of, start_body, linkage_of}
use Rattle.state.specs.State.{Answered, totals_at, broken_at, mark_of, start_joint, start_state, start_checks}
use Rattle.state.specs.declared.places.JointState.{JointState}
use Rattle.state.proofs.Found.{any_each}
use Rattle.state.proofs.Rows.{mark_read}
use Rattle.tick.specs.Tick.{Solved, turned_linkage, skipped, solve_next, solve_pass, solved, breaks, new_joint, new_state}
use Rattle.tick.specs.Run.{Ran, tick_of, tick_next, run_of}
use Rattle.tick.proofs.Ends.{new_totals, new_mark}
use Rattle.tick.proofs.Turning.{card_bodies, card_joints}
use Rattle.demand.specs.Breaks.{Ticking, Broken, Exceeded, JointBreaks, Breaks}
use Rattle.demand.proofs.Calls.{calls_leave}
use Rattle.demand.proofs.Same.{same_tick, same_run}
use Rattle.demand.proofs.Twins.{same_linkage}

mark_says : (b : Bool) → eq (mark_of b) f1 ≡ b
unfolding eq of_bits of_fields odd size span climb
mark_says true = refl
mark_says false = refl

-- ---- a tick of a linkage

module _ (K : Linkage) (s : List Float) (j : ℕ) where
  -- no step writes the totals of a joint that is skipped
  solve_leaves : skipped K s j ≡ true → get_or (solved K s).totals j no_totals ≡ no_totals
  unfolding solve_pass solve_next
  solve_leaves e =
      after_all (solve_next K s true) _ (λ (σ : Solved). get_or σ.totals j no_totals ≡ no_totals) (length K.joints) (get_or-map (λ _. no_totals) K.joints j (joint_of [])) next
    where
      next : (i : ℕ) (σ : Solved) → i < length K.joints → get_or σ.totals j no_totals ≡ no_totals → get_or (solve_next K s true i σ).totals j no_totals ≡ no_totals
      next i σ h q = by (skipped K s i) refl
        where
          by : (b : Bool) → skipped K s i ≡ b → get_or (solve_next K s true i σ).totals j no_totals ≡ no_totals
          by true r = rw r q
          by false r = rw r (get_or-set_other σ.totals i j _ no_totals (λ z. subst T (sym e ∙ ap (skipped K s) z ∙ r) tt) ∙ q)

  new_broken : j < length K.joints → broken_at (length K.bodies) (new_state K s) j ≡ (skipped K s j || breaks K s j)
  unfolding broken_at
  new_broken h = ap (λ x. eq x f1) (new_mark K s j h) ∙ mark_says (new_joint K s j).broken

-- ---- a tick of a card

module _ (card : List ℕ) (j : ℕ) (l : j < length (card_of card).joints) where
  abbrev n : ℕ
  n = length (card_of card).bodies

  starts_whole : Broken card j (start_state (card_of card)) ≡ false
  unfolding broken_at start_state
  starts_whole =
      let joints = map (λ _. start_joint) (card_of card).joints in
      let mark = rw (length-map (card_of card).bodies start_body) at (mark_read (map start_body (card_of card).bodies) joints j start_joint (rw (length-map (card_of card).joints (λ _. start_joint)) l)) in
      ap (λ x. eq x f1) (mark ∙ ap (λ (k : JointState). mark_of k.broken) (get_or-map (λ _. start_joint) (card_of card).joints j [])) ∙ mark_says false

  module _ (s : List Float) where
    abbrev K : Linkage
    K = turned_linkage (linkage_of (card_of card)) s

    bodies_counted : length K.bodies ≡ n
    bodies_counted = card_bodies (card_of card) s

    on_linkage : j < length K.joints
    on_linkage = rw (card_joints (card_of card) s) l

    breaks_lem : Broken card j (new_state K s) ≡ (Broken card j s || breaks K s j)
    breaks_lem = rw bodies_counted at (new_broken K s j on_linkage)

    stays : Broken card j s ≡ true → Broken card j (new_state K s) ≡ true
    stays b = breaks_lem ∙ rw b

    module _ (e : (tick_of card s).number ≡ 0) where
      new_state_lem : (tick_of card s).state ≡ new_state K s
      unfolding tick_of
      new_state_lem = rw e

      totals_zero : Broken card j s ≡ true → totals_at n (tick_of card s).state j ≡ no_totals
      totals_zero b =
          ap (λ t. totals_at n t j) new_state_lem ∙ (rw bodies_counted at (new_totals K s j on_linkage)) ∙ solve_leaves K s j (rw bodies_counted b)

-- ---- a run of a card

module _ (r : Ran) (t : Answered) where
  abbrev ticked : ℕ → Ran
  ticked n = record { number = t.number; ticks = n; state = t.state }

  last_by : (b c : Bool) → eqb r.number 0 ≡ b
      → let a = if b then (if c then ticked (r.ticks + 1) else ticked r.ticks) else r in
      a.number ≡ 0 → (r.number ≡ 0) × (t.number ≡ 0) × (a.state ≡ t.state)
  last_by true true q e = (eqb-true r.number 0 q, e, refl)
  last_by true false q e = (eqb-true r.number 0 q, e, refl)
  last_by false c q e = absurd (subst T (sym (eq-eqb r.number 0 e) ∙ q) tt)

module _ (card : List ℕ) (j : ℕ) (l : j < length (card_of card).joints) where
  -- a tick more
  last_done : (i : ℕ) (r : Ran) → (tick_next card i r).number ≡ 0 → (r.number ≡ 0) × ((tick_of card r.state).number ≡ 0) × ((tick_next card i r).state ≡ (tick_of card r.state).state)
  unfolding tick_next
  last_done i r = last_by r (tick_of card r.state) (eqb r.number 0) (eqb (tick_of card r.state).number 0) refl

  module _ (s : List Float) where
    abbrev run_to : ℕ → Ran
    run_to = after (tick_next card) (record { number = first_of (start_checks card s); ticks = 0; state = s })

    state_after : (n : ℕ) → (run_to n).number ≡ 0 → (run_of card s n).state ≡ (run_to n).state
    unfolding run_of
    state_after n e = rw e

    in_a_run : (n : ℕ) → (run_to n).number ≡ 0 → Broken card j (run_to n).state ≡ (Broken card j s || any (Exceeded card j) (each (λ i. (run_of card s i).state) n))
    unfolding after any each
    in_a_run zero e = sym (or-false (Broken card j s))
    in_a_run (suc n) e =
        let states : ℕ → List Float = λ i. (run_of card s i).state in
        let d = last_done n (run_to n) e in
        let u = (run_to n).state in
        rw (rw add-one at (any_each (Exceeded card j) states n), state_after n d.0)
        (ap (Broken card j) d.2 ∙ ap (Broken card j) (new_state_lem card j l u d.1) ∙ breaks_lem card j l u ∙ ap (λ b. b || Exceeded card j u) (in_a_run n d.0) ∙ or_assoc (Broken card j s) _ (Exceeded card j u))

    exactly_in_a_run : (n : ℕ) → (run_of card s n).number ≡ 0 → Broken card j (run_of card s n).state ≡ (Broken card j s || any (Exceeded card j) (each (λ i. (run_of card s i).state) n))
    unfolding run_of
    exactly_in_a_run n e = ap (Broken card j) (state_after n e) ∙ in_a_run n e

each_breaks : (card : List ℕ) (j : ℕ) → j < length (card_of card).joints → JointBreaks card j
each_breaks card j l =
    record {
      starts_whole = starts_whole card j l;
      exactly = λ s e. ap (Broken card j) (new_state_lem card j l s e) ∙ breaks_lem card j l s;
      exactly_in_a_run = exactly_in_a_run card j l;
      totals_zero = totals_zero card j l;
      for_good = calls_leave (λ s. Broken card j s ≡ true) card (stays card j l) Ticking (λ z. absurd z);
    }

pub breaking : Breaks
breaking =
    record {
      joints = each_breaks;
      twin = λ card older z y t s. let linkage = same_linkage (card_of card) (card_of older) t in (same_tick card older z y linkage s, same_run card older z y linkage s);
    }
