-- The joints' solve: one joint more, and a solve that stops.
use Prim.Native.Nat.{ℕ, ◌+◌, ◌<◌}
use native.Mathlib.Omega.{arith}
use mathlib.Core.Path.{◌≡◌, refl, sym, ap, ◌∙◌}
use mathlib.Core.Bool.{Bool, true, false, not, ◌&&◌}
use mathlib.Core.List.{List}
use lib.ListN.{length}
use lib.Seq.{sets}
use lib.Ieee.{Float}
use Rattle.std.proofs.lemmas.Bool.{not-false, not-true}
use Rattle.solver_body.specs.declared.SolverBody.{SolverBody}
use Rattle.tick.specs.declared.joint.JointResult.{JointResult}
use Rattle.numbers.specs.Lists.{after}
use Rattle.numbers.proofs.Loops.{after_turn, after_back}
use Rattle.loader.specs.Linkage.{Linkage}
use Rattle.state.specs.State.{state_length, totals_numbers}
use Rattle.state.proofs.Rows.{totals_put}
use Rattle.tick.specs.Tick.{Solved, put_pair, skipped, solved_by, solve_next}
use Rattle.tick.specs.Work.{result_at, solved_in}

module _ (K : Linkage) (s : List Float) where
  more_finite : (j : ℕ) (σ : Solved) → (solve_next K s true j σ).finite ≡ true → σ.finite ≡ true
  unfolding solve_next
  more_finite j σ e = by (skipped K s j) refl
    where
      and_first : (a b : Bool) → (a && b) ≡ true → a ≡ true
      and_first true b e = refl
      and_first false b e = e

      by : (b : Bool) → skipped K s j ≡ b → σ.finite ≡ true
      by true q = rw q at e
      by false q = and_first σ.finite _ (rw q at e)

  -- joint j is solved
  module _ (j : ℕ) (w : List SolverBody) (t : List Float) (whole : skipped K s j ≡ false) {r : JointResult} (e : r ≡ result_at K s j (solved_by K s true j (solved_in K w t))) where
    pub solve_more : not r.finite ≡ false → {w' : List SolverBody} {t' : List Float} → w' ≡ put_pair K j r.bodies w → t' ≡ sets t (state_length (length K.bodies) j) (totals_numbers r.totals)
        → j < length K.joints → length t ≡ state_length (length K.bodies) (length K.joints) → solved_in K w' t' ≡ solve_next K s true j (solved_in K w t)
    unfolding solve_next
    solve_more f ew et k room = rw (whole, rw e at (not-false _ f), ew, et, totals_put t (length K.bodies) j (length K.joints) k (omega (arith, room)) r.totals, e)

    pub solve_stop : not r.finite ≡ true → (solve_next K s true j (solved_in K w t)).finite ≡ false
    unfolding solve_next
    solve_stop f = rw whole (rw e at (not-true _ f))

  -- a solve that stops stays stopped
  pub solve_last : (σ₀ : Solved) {j n : ℕ} {σ : Solved} → σ ≡ after (solve_next K s true) σ₀ j → (solve_next K s true j σ).finite ≡ false → j < n
      → (after (solve_next K s true) σ₀ n).finite ≡ false
  solve_last σ₀ {j} {n} {σ} inv e k = by (after (solve_next K s true) σ₀ n).finite refl
    where
      by : (b : Bool) → (after (solve_next K s true) σ₀ n).finite ≡ b → (after (solve_next K s true) σ₀ n).finite ≡ false
      by true q =
          let back = after_back (solve_next K s true) σ₀ (λ τ. τ.finite ≡ true) (λ i τ. more_finite i τ) (j + 1) n (omega (arith, k)) q in
          let here : solve_next K s true j σ ≡ solve_next K s true j σ = refl in
          let turn = after_turn (solve_next K s true) σ₀ inv here in
          q ∙ sym back ∙ ap (λ (τ : Solved). τ.finite) (sym turn) ∙ e
      by false q = q
