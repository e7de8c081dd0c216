-- What a start writes and each tick of a card keeps holds after every list of calls that bring that card, or bytes that its checks refuse.
use Rattle.std.specs.Prelude.{if◌then◌else◌}
use Prim.Native.Nat.{ℕ}
use mathlib.Core.Path.{◌≡◌, refl}
use mathlib.Core.Logic.{inl, inr}
use mathlib.Core.List.{List, [], ◌∷◌, Memᴰ}
use lib.Dec.{eqb}
use lib.Ieee.{Float}
use borrow.Author.Tests.{ne_eqb}
use Rattle.stages.proofs.Choice.{either}
use Rattle.numbers.specs.Lists.{after}
use Rattle.numbers.proofs.Loops.{after_all}
use Rattle.card.specs.Card.{card_of}
use Rattle.card.specs.Checks.{first_of, check_of}
use Rattle.loader.specs.Linkage.{linkage_of}
use Rattle.state.specs.State.{start_state, start_checks, start_of}
use Rattle.tick.specs.Tick.{turned_linkage, new_state}
use Rattle.tick.specs.Run.{Ran, tick_of, tick_next, run_of}
use Rattle.demand.specs.Demand.{Call, start, tick, ticks, leaves, after_calls, CardOrRefused}
use Rattle.demand.proofs.Checks.{start_passed, tick_passed}

-- ---- bytes that the card's checks refuse: nothing is written

left : (n : ℕ) (s new : List Float) → (n ≡ 0 → ⊥) → (if eqb n 0 then new else s) ≡ s
left n s new x = rw (ne_eqb n 0 x) refl

module _ (bytes : List ℕ) (s : List Float) (x : check_of bytes ≡ 0 → ⊥) where
  start_refused : (start_of bytes s).state ≡ s
  unfolding start_of
  start_refused = left (start_of bytes s).number s (start_state (card_of bytes)) (λ e. x (start_passed bytes s e))

  tick_refused : (tick_of bytes s).state ≡ s
  unfolding tick_of
  tick_refused = left (tick_of bytes s).number s (new_state (turned_linkage (linkage_of (card_of bytes)) s) s) (λ e. x (tick_passed bytes s e).0)

-- ---- calls

module _ (Kept : List Float → Type 0) (card : List ℕ) (new_kept : (s : List Float) → Kept s → Kept (new_state (turned_linkage (linkage_of (card_of card)) s) s)) where
  start_leaves : Kept (start_state (card_of card)) → (bytes : List ℕ) → CardOrRefused card bytes → (s : List Float) → Kept s → Kept (start_of bytes s).state
  unfolding start_of
  start_leaves k bytes (inl e) s z = rw e (either Kept (eqb (start_of card s).number 0) (start_state (card_of card)) s k z)
  start_leaves k bytes (inr x) s z = rw (start_refused bytes s x) z

  module _ (bytes : List ℕ) (b : CardOrRefused card bytes) where
    tick_leaves : (s : List Float) → Kept s → Kept (tick_of bytes s).state
    unfolding tick_of
    tick_leaves s z =
        elim b [
          | inl e ↦ rw e (either Kept (eqb (tick_of card s).number 0) (new_state (turned_linkage (linkage_of (card_of card)) s) s) s (new_kept s z) z)
          | inr x ↦ rw (tick_refused bytes s x) z
        ]

    next_leaves : (i : ℕ) (a : Ran) → Kept a.state → Kept (tick_next bytes i a).state
    unfolding tick_next
    next_leaves i a z =
        let t = tick_leaves a.state z in
        either (λ (r : Ran). Kept r.state) (eqb a.number 0) _ a (either (λ (r : Ran). Kept r.state) (eqb (tick_of bytes a.state).number 0) _ _ t t) z

    run_leaves : (n : ℕ) (s : List Float) → Kept s → Kept (run_of bytes s n).state
    unfolding run_of
    run_leaves n s z =
        let first : Ran = record { number = first_of (start_checks bytes s); ticks = 0; state = s } in
        let a = after (tick_next bytes) first n in
        either Kept (eqb a.number 0) a.state s (after_all (tick_next bytes) first (λ (r : Ran). Kept r.state) n z (λ i r l y. next_leaves i r y)) z

  -- the calls that the list may have: a start only where what it writes is kept
  module _ (May : Call → Type 0) (start_kept : May start → Kept (start_state (card_of card))) where
    call_leaves : (c : Call × List ℕ) → May c.0 → CardOrRefused card c.1 → (s : List Float) → Kept s → Kept (leaves c s)
    call_leaves (start, bytes) m = start_leaves (start_kept m) bytes
    call_leaves (tick, bytes) m = tick_leaves bytes
    call_leaves (ticks n, bytes) m = λ b. run_leaves bytes b n

    pub calls_leave : (l : List (Call × List ℕ)) → ((c : Call × List ℕ) → Memᴰ c l → May c.0 × CardOrRefused card c.1) → (s : List Float) → Kept s → Kept (after_calls l s)
    unfolding after_calls
    calls_leave [] b s z = z
    calls_leave (c ∷ l) b s z =
        let here = b c (Memᴰ.head refl) in
        calls_leave l (λ k m. b k (Memᴰ.tail m)) (leaves c s) (call_leaves c here.0 here.1 s z)
