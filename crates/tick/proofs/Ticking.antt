-- Ticks in a row: a run of a card and a state that no check refuses is the ticks of its linkage.
use Rattle.std.specs.Prelude.{if◌then◌else◌}
use Prim.Native.Nat.{ℕ, zero, suc, ◌+◌, ◌<◌}
use native.Mathlib.Omega.{arith}
use mathlib.Core.Path.{◌≡◌, refl, sym, ap, ◌∙◌}
use mathlib.Core.Bool.{Bool, true, false, not, ◌||◌}
use mathlib.Core.List.{List, [], ◌∷◌, ◌++◌}
use lib.ListN.{length}
use lib.Dec.{eqb}
use lib.Ieee.{Float}
use borrow.Author.Tests.{eq-eqb, ne_eqb}
use Rattle.numbers.specs.Lists.{after}
use Rattle.numbers.proofs.Loops.{after_none, after_more, after_kept}
use Rattle.card.specs.Card.{edition_at, card_of}
use Rattle.card.specs.Checks.{Refusal, refuse, first_of, card_checks, check_of}
use Rattle.card.proofs.Checking.{first_append}
use Rattle.card.proofs.Accepted.{accepted}
use Rattle.loader.specs.Linkage.{Linkage, linkage_of}
use Rattle.loader.specs.Parts.{header_of}
use Rattle.loader.specs.declared.header.Header.{Header}
use Rattle.state.specs.State.{Answered, state_length, bad_numbers, bad_marks, start_checks, state_checks, answered, unless_refused}
use Rattle.tick.specs.Tick.{turned_linkage, solved, new_state, stopped}
use Rattle.tick.specs.Run.{Ran, tick_of, tick_next, run_of}
use Rattle.tick.specs.Work.{ran, next_tick, ticks_next, ticks_of, all_or_nothing}
use Rattle.tick.proofs.Ends.{new_length, new_marks}
use Rattle.tick.proofs.Turning.{card_bodies, card_joints}

-- ---- ticks of a linkage

module _ (K : Linkage) (s₀ : List Float) where
  pub ticks_none : ran 0 0 s₀ ≡ ticks_of K s₀ 0
  unfolding ticks_of
  ticks_none = sym (after_none (ticks_next K) (ran 0 0 s₀))

  module _ (i : ℕ) {s : List Float} (inv : ran 0 i s ≡ ticks_of K s₀ i) where
    turn : next_tick K (ran 0 i s) ≡ ticks_of K s₀ (i + 1)
    unfolding ticks_of ticks_next
    turn = sym (after_more (ticks_next K) (ran 0 0 s₀) i ∙ rw (← inv))

    pub ticks_more : stopped (turned_linkage K s) s ≡ false → {t : List Float} → t ≡ new_state (turned_linkage K s) s → ran 0 (i + 1) t ≡ ticks_of K s₀ (i + 1)
    ticks_more f e = rw (f, ← e) at turn

    pub ticks_stop : {n : ℕ} → i < n → stopped (turned_linkage K s) s ≡ true → ran 13 i s ≡ ticks_of K s₀ n
    unfolding ticks_of ticks_next
    ticks_stop {n} h f =
        let here : ran 13 i s ≡ ticks_of K s₀ (i + 1) = rw f at turn in
        here ∙ sym (after_kept (ticks_next K) (ran 0 0 s₀) (i + 1) n (omega arith) (λ m. rw (← here)))

-- ---- the checks

module _ (card : List ℕ) (s : List Float) where
  abbrev rows : List Refusal
  rows = card_checks (edition_at card) card (card_of card)

  abbrev wrong_length : Bool
  wrong_length = not (eqb (length s) (state_length (length (card_of card).bodies) (length (card_of card).joints)))

  abbrev bad : Bool
  bad = bad_numbers (length (card_of card).bodies) s

  abbrev unmarked : Bool
  unmarked = bad_marks (length (card_of card).bodies) (length (card_of card).joints) s

  start_first : first_of (start_checks card s) ≡ (if eqb (check_of card) 0 then first_of (refuse 11 wrong_length ∷ []) else check_of card)
  unfolding check_of
  start_first = first_append rows (refuse 11 wrong_length ∷ []) tt

  state_first : first_of (state_checks card s) ≡ (if eqb (first_of (start_checks card s)) 0 then first_of (refuse 12 bad ∷ refuse 21 unmarked ∷ []) else first_of (start_checks card s))
  state_first = first_append (start_checks card s) (refuse 12 bad ∷ refuse 21 unmarked ∷ []) tt

  tick_first : (b : Bool) → first_of (state_checks card s ++ (refuse 13 b ∷ [])) ≡ (if eqb (first_of (state_checks card s)) 0 then first_of (refuse 13 b ∷ []) else first_of (state_checks card s))
  tick_first b = first_append (state_checks card s) (refuse 13 b ∷ []) tt

  -- the first refusals, one after the other
  pub card_refused : (k : ℕ) → k ≡ check_of card → (k ≡ 0 → ⊥) → first_of (start_checks card s) ≡ k
  card_refused k e x = start_first ∙ rw (← e, ne_eqb k 0 x)

  module _ (z : check_of card ≡ 0) where
    pub length_refused : (length s ≡ state_length (length (card_of card).bodies) (length (card_of card).joints) → ⊥) → first_of (start_checks card s) ≡ 11
    length_refused x = start_first ∙ rw (z, ne_eqb _ _ x)

    module _ (len : length s ≡ state_length (length (card_of card).bodies) (length (card_of card).joints)) where
      pub start_passed : first_of (start_checks card s) ≡ 0
      start_passed = start_first ∙ rw (z, eq-eqb _ _ len)

      pub state_refused : bad ≡ true → first_of (state_checks card s) ≡ 12
      state_refused e = state_first ∙ rw (start_passed, e)

      pub mark_refused : bad ≡ false → unmarked ≡ true → first_of (state_checks card s) ≡ 21
      mark_refused ok e = state_first ∙ rw (start_passed, ok, e)

      module _ (ok : bad ≡ false) (marked : unmarked ≡ false) where
        state_passed : first_of (state_checks card s) ≡ 0
        state_passed = state_first ∙ rw (start_passed, ok, marked)

        stop_first : (b : Bool) → first_of (state_checks card s ++ (refuse 13 b ∷ [])) ≡ first_of (refuse 13 b ∷ [])
        stop_first b = tick_first b ∙ rw state_passed

        tick_by : (b : Bool) (new : List Float)
            → unless_refused (state_checks card s ++ (refuse 13 b ∷ [])) s new ≡ answered (if b then 13 else 0) (if b then s else new)
        tick_by true new = rw (stop_first true)
        tick_by false new = rw (stop_first false)

        pub tick_passed : let K = turned_linkage (linkage_of (card_of card)) s in tick_of card s ≡ answered (if stopped K s then 13 else 0) (if stopped K s then s else new_state K s)
        unfolding tick_of
        tick_passed = let K = turned_linkage (linkage_of (card_of card)) s in tick_by (stopped K s) (new_state K s)

-- ---- a run

or_second : (a b : Bool) → (a || b) ≡ false → b ≡ false
or_second true b e = absurd_bool e
  where
    absurd_bool : true ≡ false → b ≡ false
    absurd_bool q = by b
      where
        by : (c : Bool) → c ≡ false
        by true = q
        by false = refl
or_second false b e = e

module _ (card : List ℕ) (z : check_of card ≡ 0) where
  abbrev K : Linkage
  K = linkage_of (card_of card)

  abbrev Good : List Float → Type 0
  Good s =
      (length s ≡ state_length (length (card_of card).bodies) (length (card_of card).joints)) × (bad_numbers (length (card_of card).bodies) s ≡ false)
      × (bad_marks (length (card_of card).bodies) (length (card_of card).joints) s ≡ false)

  -- at a state's poses
  abbrev turned : List Float → Linkage
  turned s = turned_linkage K s

  good_next : (s : List Float) → stopped (turned s) s ≡ false → Good (new_state (turned s) s)
  unfolding stopped
  good_next s e =
      let L = turned s in
      let bodies = card_bodies (card_of card) s in
      let joints = card_joints (card_of card) s in
      (new_length L s ∙ rw (bodies, joints), rw bodies at (or_second (not (solved L s).finite) (bad_numbers (length L.bodies) (new_state L s)) e), rw (bodies, joints) at (new_marks L s))

  -- a tick of the card is a tick of its linkage
  next_by : (b : Bool) (i : ℕ) (s new : List Float)
      → (let t = answered (if b then 13 else 0) (if b then s else new) in if eqb t.number 0 then ran t.number (i + 1) t.state else ran t.number i t.state)
      ≡ (if b then ran 13 i s else ran 0 (i + 1) new)
  next_by true i s new = refl
  next_by false i s new = refl

  next_same : (i : ℕ) (a : Ran) → a.number ≡ 0 → Good a.state → tick_next card i a ≡ ticks_next K i a
  unfolding tick_next ticks_next
  next_same i a e g = rw (e, tick_passed card a.state z g.0 g.1 g.2) (next_by (stopped (turned a.state) a.state) a.ticks a.state (new_state (turned a.state) a.state))

  kept_same : (i : ℕ) (a : Ran) → (a.number ≡ 0 → ⊥) → tick_next card i a ≡ ticks_next K i a
  unfolding tick_next ticks_next
  kept_same i a x = rw (ne_eqb a.number 0 x)

  kept_is : (i : ℕ) (a : Ran) → (a.number ≡ 0 → ⊥) → ticks_next K i a ≡ a
  unfolding ticks_next
  kept_is i a x = rw (ne_eqb a.number 0 x)

  any_same : (i : ℕ) (a : Ran) → (a.number ≡ 0 → Good a.state) → tick_next card i a ≡ ticks_next K i a
  any_same i a g = by_number a.number refl
    where
      by_number : (n : ℕ) → a.number ≡ n → tick_next card i a ≡ ticks_next K i a
      by_number zero q = next_same i a q (g q)
      by_number (suc n) q = kept_same i a (λ e. omega (arith, e, q))

  next_good : (i : ℕ) (a : Ran) → (a.number ≡ 0 → Good a.state) → (ticks_next K i a).number ≡ 0 → Good (ticks_next K i a).state
  unfolding ticks_next
  next_good i a g e = by_number a.number refl
    where
      by_stop : (b : Bool) → stopped (turned a.state) a.state ≡ b
          → let r = if b then ran 13 a.ticks a.state else ran 0 (a.ticks + 1) (new_state (turned a.state) a.state) in
          r.number ≡ 0 → Good r.state
      by_stop true q n = absurd (omega (arith, n))
      by_stop false q n = good_next a.state q

      by_number : (n : ℕ) → a.number ≡ n → Good (ticks_next K i a).state
      by_number zero q = rw q (by_stop (stopped (turned a.state) a.state) refl (rw q at e))
      by_number (suc n) q = never (kept_is i a (λ z. omega (arith, z, q)))
        where
          never : ticks_next K i a ≡ a → Good (ticks_next K i a).state
          never k = absurd (omega (arith, q, sym (ap (λ (r : Ran). r.number) k) ∙ e))

  module _ (s : List Float) (good : Good s) where
    run_same : (i : ℕ) → (after (tick_next card) (ran 0 0 s) i ≡ ticks_of K s i) × ((ticks_of K s i).number ≡ 0 → Good (ticks_of K s i).state)
    unfolding ticks_of after
    run_same zero = (refl, λ _. good)
    run_same (suc i) =
        let before = run_same i in
        (ap (tick_next card i) before.0 ∙ any_same i (ticks_of K s i) before.1, next_good i (ticks_of K s i) before.1)

    pub run_is : (n : ℕ) → all_or_nothing s (ticks_of K s n) ≡ run_of card s n
    unfolding run_of
    run_is n = sym (rw (start_passed card s z good.0, (run_same n).0))

module _ (card : List ℕ) (s : List Float) where
  pub run_refused : {k : ℕ} → first_of (start_checks card s) ≡ k → (k ≡ 0 → ⊥) → (n : ℕ) → ran k 0 s ≡ run_of card s n
  unfolding run_of tick_next
  run_refused {k} e x n =
      let still : after (tick_next card) (ran k 0 s) n ≡ ran k 0 s = after_kept (tick_next card) (ran k 0 s) 0 n (omega arith) (λ m. rw (after_none (tick_next card) (ran k 0 s), ne_eqb k 0 x)) ∙ after_none (tick_next card) (ran k 0 s) in
      sym (rw (e, still, ne_eqb k 0 x))

  pub run_none : first_of (start_checks card s) ≡ 0 → {n : ℕ} → n ≡ 0 → ran 0 0 s ≡ run_of card s n
  unfolding run_of after
  run_none e {n} q = rw (q, e)

  refused_first : (b : Bool) {k : ℕ} → first_of (state_checks card s) ≡ k → (k ≡ 0 → ⊥) → first_of (state_checks card s ++ (refuse 13 b ∷ [])) ≡ k
  refused_first b {k} e x = tick_first card s b ∙ rw (e, ne_eqb k 0 x)

  -- the first tick is refused
  refused_by : {k : ℕ} → first_of (state_checks card s) ≡ k → (k ≡ 0 → ⊥) → tick_of card s ≡ answered k s
  unfolding tick_of
  refused_by {k} e x = rw (refused_first (stopped (turned_linkage (linkage_of (card_of card)) s) s) e x, ne_eqb k 0 x)

  pub tick_refused : first_of (start_checks card s) ≡ 0 → {k : ℕ} → first_of (state_checks card s) ≡ k → (k ≡ 0 → ⊥) → {n : ℕ} → 0 < n → ran k 0 s ≡ run_of card s n
  unfolding run_of tick_next
  tick_refused e {k} q x {n} h =
      let first : after (tick_next card) (ran 0 0 s) 1 ≡ ran k 0 s = after_more (tick_next card) (ran 0 0 s) 0 ∙ rw (after_none (tick_next card) (ran 0 0 s), refused_by q x, ne_eqb k 0 x) in
      let still : after (tick_next card) (ran 0 0 s) n ≡ ran k 0 s = after_kept (tick_next card) (ran 0 0 s) 1 n (omega (arith, h)) (λ m. rw (first, ne_eqb k 0 x)) ∙ first in
      sym (rw (e, still, ne_eqb k 0 x))

  -- a run of one tick is a tick
  tick_state : (n : ℕ) (new : List Float) → (if eqb n 0 then (if eqb n 0 then new else s) else s) ≡ (if eqb n 0 then new else s)
  tick_state zero new = refl
  tick_state (suc n) new = rw (ne_eqb (suc n) 0 (λ e. omega (arith, e)))

  tick_kept : (if eqb (tick_of card s).number 0 then (tick_of card s).state else s) ≡ (tick_of card s).state
  unfolding tick_of
  tick_kept =
      let L = turned_linkage (linkage_of (card_of card)) s in tick_state (first_of (state_checks card s ++ (refuse 13 (stopped L s) ∷ []))) (new_state L s)

  either : (b : Bool) (t : Answered)
      → (let r = if b then ran t.number 1 t.state else ran t.number 0 t.state in answered r.number (if eqb r.number 0 then r.state else s))
      ≡ answered t.number (if eqb t.number 0 then t.state else s)
  either true t = refl
  either false t = refl

  one_made : first_of (start_checks card s) ≡ 0 → answered (run_of card s 1).number (run_of card s 1).state ≡ tick_of card s
  unfolding run_of tick_next after
  one_made e = rw e (either (eqb (tick_of card s).number 0) (tick_of card s) ∙ ap (answered (tick_of card s).number) tick_kept)

  one_by : (n : ℕ) → first_of (start_checks card s) ≡ n → answered (run_of card s 1).number (run_of card s 1).state ≡ tick_of card s
  one_by zero e = one_made e
  one_by (suc n) e =
      let x : suc n ≡ 0 → ⊥ = λ z. omega (arith, z) in
      let q : first_of (state_checks card s) ≡ suc n = state_first card s ∙ rw (e, ne_eqb (suc n) 0 x) in
      ap (λ (r : Ran). answered r.number r.state) (sym (run_refused e x 1)) ∙ sym (refused_by q x)

  pub tick_is : {k : ℕ} {t : List Float} {n : ℕ} → ran k n t ≡ run_of card s 1 → answered k t ≡ tick_of card s
  tick_is e = ap (λ (r : Ran). answered r.number r.state) e ∙ one_by (first_of (start_checks card s)) refl

-- ---- an accepted card's counts

module _ (card : List ℕ) (z : check_of card ≡ 0) {h : Header} (e : h ≡ header_of (card_of card)) where
  pub bodies_counted : h.bodies ≡ length (card_of card).bodies
  unfolding header_of
  bodies_counted = rw e (sym (accepted card z).has.bodies)

  pub joints_counted : h.joints ≡ length (card_of card).joints
  unfolding header_of
  joints_counted = rw e (sym (accepted card z).has.joints)

  pub length_is : state_length h.bodies h.joints ≡ state_length (length (card_of card).bodies) (length (card_of card).joints)
  length_is = rw (bodies_counted, joints_counted)

  pub numbers_are : (s : List Float) → bad_numbers (length (card_of card).bodies) s ≡ bad_numbers h.bodies s
  numbers_are s = ap (λ (n : ℕ). bad_numbers n s) (sym bodies_counted)

  pub marks_are : (s : List Float) → bad_marks (length (card_of card).bodies) (length (card_of card).joints) s ≡ bad_marks h.bodies h.joints s
  marks_are s = rw (bodies_counted, joints_counted)

pub some : (n : ℕ) → (n ≡ 0 → ⊥) → 0 < n
some zero x = absurd (x refl)
some (suc n) x = omega arith
