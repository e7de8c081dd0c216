-- Each stage and push of a tick that is not refused is sound.
use Rattle.std.specs.Prelude.{if◌then◌else◌}
use Prim.Native.Nat.{ℕ, suc, ◌<◌}
use mathlib.Core.Path.{◌≡◌, refl, sym, ◌∙◌, subst}
use mathlib.Core.Bool.{Bool, true, false, not}
use mathlib.Core.List.{List, [], map}
use lib.ListN.{length}
use lib.Dec.{T}
use lib.Ieee.{Float}
use lib.Ieee.Fits.{and_l, and_r}
use borrow.Author.Tests.{not-false}
use Rattle.xpbd_joints.specs.Steps.{no_totals, Run, events}
use Rattle.std.specs.List.{AllByRecursion}
use Rattle.stages.proofs.Sound.{EventSound, steps_sound}
use Rattle.card.specs.Card.{card_of}
use Rattle.card.proofs.Bools.{or_left}
use Rattle.numbers.specs.Lists.{all, after}
use Rattle.numbers.proofs.Loops.{after_back}
use Rattle.scalar.specs.Scalar.{is_finite}
use Rattle.loader.specs.Linkage.{Linkage, linkage_of}
use Rattle.state.specs.State.{bad_numbers}
use Rattle.tick.specs.Tick.{Solved, body, joint, put_pair, turned_linkage, setting, rigid, skipped, steps, pre_solve_of, found, solved_by, looked, solve_next, solve_pass, solved_to, solved, events_at, new_state, stopped}
use Rattle.tick.specs.Run.{tick_of}
use Rattle.tick.proofs.Turning.{card_joints}
use Rattle.demand.proofs.Checks.{tick_passed}
use Rattle.demand.proofs.Calm.{solve_calm}
use Rattle.demand.proofs.Fitting.{pair_fit, found_fit}
use Rattle.demand.proofs.Given.{setting_ok, steps_ok}

module _ (K : Linkage) (s : List Float) where
  -- joint j's solve, of what the joints before it left
  abbrev solve_at : ℕ → Run
  solve_at j = solved_by K s true j (solved_to K s j)

  pub traces : (j : ℕ)
      → (events_at K s j ≡ (if skipped K s j then [] else events (setting K true j) (steps K s j) (found K s j (solved_to K s j))))
      × ((solved_to K s (suc j)).bodies ≡ (if skipped K s j then (solved_to K s j).bodies else put_pair K j (solve_at j).bodies (solved_to K s j).bodies))
  unfolding events_at solve_pass after solve_next
  traces j = (refl, by (skipped K s j) (solved_to K s j) _)
    where
      by : (b : Bool) (σ τ : Solved) → (if b then σ else τ).bodies ≡ (if b then σ.bodies else τ.bodies)
      by true σ τ = refl
      by false σ τ = refl

  -- ---- finite at the end: finite after each joint

  abbrev Live : Solved → Type 0
  Live σ = T σ.finite

  next_live : (j : ℕ) (σ : Solved) → Live (solve_next K s true j σ) → Live σ × (skipped K s j ≡ false → T (all is_finite (looked K s j (solved_by K s true j σ))))
  unfolding solve_next
  next_live j σ k = by (skipped K s j) refl
    where
      by : (b : Bool) → skipped K s j ≡ b → Live σ × (skipped K s j ≡ false → T (all is_finite (looked K s j (solved_by K s true j σ))))
      by true q = (rw q at k, λ e. absurd (subst T (sym q ∙ e) tt))
      by false q = let m = rw q at k in (and_l σ.finite _ m, λ _. and_r σ.finite _ m)

  joint_finite : (j : ℕ) → j < length K.joints → Live (solved K s) → skipped K s j ≡ false → T (all is_finite (looked K s j (solve_at j)))
  unfolding solve_pass after
  joint_finite j l k =
      let first : Solved = record { bodies = pre_solve_of K s; totals = map (λ i. no_totals) K.joints; finite = true } in
      (next_live j (solved_to K s j) (after_back (solve_next K s true) first Live (λ i σ m. (next_live i σ m).0) (suc j) (length K.joints) l k)).1

  not_stopped : stopped K s ≡ false → Live (solved K s)
  unfolding stopped
  not_stopped e =
      let finite = (solved K s).finite in
      subst T (sym (not-false finite (or_left (not finite) (bad_numbers (length K.bodies) (new_state K s)) e))) tt

-- ---- the tick

module _ (card : List ℕ) (s : List Float) (e : (tick_of card s).number ≡ 0) (j : ℕ) (l : j < length (card_of card).joints) where
  abbrev L : Linkage
  L = turned_linkage (linkage_of (card_of card)) s

  solve_sound : skipped L s j ≡ false → AllByRecursion EventSound (events (setting L true j) (steps L s j) (found L s j (solved_to L s j)))
  solve_sound whole =
      let t = tick_passed card s e in
      let k = joint L j in
      let n : j < length L.joints = rw (card_joints (card_of card) s) l in
      steps_sound (setting L true j) (setting_ok card t.0 s j l) (steps L s j) (steps_ok card t.0 s j l) (found L s j (solved_to L s j)) (pair_fit L s j (solved_to L s j).bodies (found_fit L s j))
      (solve_calm k.joint (rigid L s k.body1) (rigid L s k.body2) (body L k.body1).inertia (body L k.body2).inertia (solve_at L s j) (joint_finite L s j n (not_stopped L s t.1) whole))

  pub tick_sound : AllByRecursion EventSound (events_at L s j)
  unfolding events_at
  tick_sound = by (skipped L s j) refl
    where
      by : (b : Bool) → skipped L s j ≡ b → AllByRecursion EventSound (if b then [] else events (setting L true j) (steps L s j) (found L s j (solved_to L s j)))
      by true q = tt
      by false q = solve_sound q
