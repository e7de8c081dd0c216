-- Each step keeps how many bodies the solver has.
use Rattle.std.specs.Prelude.{if◌then◌else◌}
use Prim.Native.Nat.{ℕ}
use mathlib.Core.Path.{◌≡◌, refl, ◌∙◌}
use mathlib.Core.Bool.{Bool, true, false}
use mathlib.Core.List.{List}
use lib.ListN.{length, get_or, set, replicate, length-set, length-replicate}
use lib.Ieee.{Float}
use Rattle.solver_body.specs.Body.{solver_body_of, dummy_body}
use Rattle.solver_body.specs.declared.SolverBody.{SolverBody}
use Rattle.solver_body.specs.declared.BodyPair.{BodyPair}
use Rattle.numbers.proofs.Loops.{after_all}
use Rattle.loader.specs.Linkage.{Linkage}
use Rattle.state.specs.State.{body_at}
use Rattle.tick.specs.Tick.{Solved, body, joint, put, put_pair, each_moving, skipped, integrated_at, loaded, warm_start_next, warm_started, pre_solve_of, solve_next, solve_pass, solved}

chosen : {S : Type 0} (of : S → List SolverBody) (a : Bool) (σ τ : S) → length (of τ) ≡ length (of σ) → length (of (if a then σ else τ)) ≡ length (of σ)
chosen of true σ τ e = refl
chosen of false σ τ e = e

module _ (K : Linkage) where
  put_length : (i : ℕ) (b : SolverBody) (l : List SolverBody) → length (put K i b l) ≡ length l
  put_length i b l = chosen (λ m. m) (body K i).anchored l (set l i b) (length-set l i b)

  pair_length : (j : ℕ) (p : BodyPair) (l : List SolverBody) → length (put_pair K j p l) ≡ length l
  pair_length j p l = put_length (joint K j).body2 p.body2 (put K (joint K j).body1 p.body1 l) ∙ put_length (joint K j).body1 p.body1 l

  moving_length : (f : ℕ → SolverBody → SolverBody) (l : List SolverBody) → length (each_moving K f l) ≡ length l
  moving_length f l = after_all (λ i t. put K i (f i (get_or t i dummy_body)) t) l (λ t. length t ≡ length l) (length K.bodies) refl (λ i t _ e. put_length i _ t ∙ e)

module _ (K : Linkage) (s : List Float) where
  pub loaded_length : length (loaded K s) ≡ length K.bodies
  unfolding loaded
  loaded_length = moving_length K (λ i b. solver_body_of (body_at s i)) (replicate (length K.bodies) dummy_body) ∙ length-replicate (length K.bodies) dummy_body

  pub warmed_length : length (warm_started K s) ≡ length K.bodies
  unfolding warm_started
  warmed_length = after_all (warm_start_next K s) (loaded K s) (λ t. length t ≡ length K.bodies) (length K.joints) loaded_length (λ j t _ e. chosen (λ m. m) (skipped K s j) t _ (pair_length K j _ t) ∙ e)

  pub pre_solve_length : length (pre_solve_of K s) ≡ length K.bodies
  unfolding pre_solve_of
  pre_solve_length = moving_length K (integrated_at K) (warm_started K s) ∙ warmed_length

  pub solved_length : length (solved K s).bodies ≡ length K.bodies
  unfolding solve_pass solve_next
  solved_length = after_all (solve_next K s true) _ (λ σ. length σ.bodies ≡ length K.bodies) (length K.joints) pre_solve_length (λ j σ _ e. chosen (λ (τ : Solved). τ.bodies) (skipped K s j) σ _ (pair_length K j _ σ.bodies) ∙ e)
