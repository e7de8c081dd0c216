-- The displacements of the solver's bodies are f32s at every place of a tick: zero at first, then products and sums.
use Prim.Native.Nat.{ℕ, zero, suc}
use mathlib.Core.Bool.{true, not}
use mathlib.Core.List.{List, [], ◌∷◌, map}
use lib.ListN.{length, get_or, set, replicate}
use lib.Ieee.{Float, binary32}
use lib.Ieee.Fits.{mul-fits}
use Rattle.vector.specs.Vector.{scale_of}
use Rattle.solver_body.specs.Body.{solver_body_of, dummy_body}
use Rattle.solver_body.specs.declared.BodyState.{BodyState}
use Rattle.solver_body.specs.declared.SolverBody.{SolverBody}
use Rattle.solver_body.specs.declared.SolverBodyInertia.{SolverBodyInertia}
use Rattle.solver_body.specs.declared.BodyPair.{BodyPair}
use Rattle.xpbd_joints.specs.Revolute.{spun, revolute_warmed}
use Rattle.xpbd_joints.specs.Prismatic.{pushed_by, prismatic_warmed}
use Rattle.xpbd_joints.specs.Stage.{Setting}
use Rattle.xpbd_joints.specs.Steps.{no_totals, Step, compliant, hinge_motor, slide_motor, warmed_by, warmed}
use Rattle.xpbd_joints.specs.declared.JointTotals.{JointTotals}
use Rattle.stages.proofs.Choice.{either}
use Rattle.stages.proofs.Vec.{Fits3, origin_fits3}
use Rattle.stages.proofs.Sound.{Fit, run_fit}
use Rattle.tick.specs.Body.{integrated}
use Rattle.numbers.proofs.Loops.{after_all}
use Rattle.loader.specs.Linkage.{Linkage}
use Rattle.state.specs.State.{body_at}
use Rattle.tick.specs.Tick.{Solved, body, joint, put, each_moving, pair, put_pair, setting, skipped, steps, found, loaded, warm_start_next, warm_started, pre_solve_of, solve_next, solve_pass, solved_to}

abbrev Fitting : SolverBody → Type 0
Fitting b = Fits3 b.delta_position

-- each of a list, and the dummy past its end
abbrev pub FitAll : List SolverBody → Type 0
FitAll l = (i : ℕ) → Fitting (get_or l i dummy_body)

dummies_fit : (n : ℕ) → FitAll (replicate n dummy_body)
dummies_fit zero i = origin_fits3
dummies_fit (suc n) zero = origin_fits3
dummies_fit (suc n) (suc i) = dummies_fit n i

set_fit : (l : List SolverBody) (k : ℕ) (b : SolverBody) → FitAll l → Fitting b → FitAll (set l k b)
set_fit [] k b f g i = f i
set_fit (x ∷ l) zero b f g zero = g
set_fit (x ∷ l) zero b f g (suc i) = f (suc i)
set_fit (x ∷ l) (suc k) b f g zero = f zero
set_fit (x ∷ l) (suc k) b f g (suc i) = set_fit l k b (λ m. f (suc m)) g i

-- ---- one body, two bodies

integrated_fit : (b : SolverBody) (i : SolverBodyInertia) (g h : Float) → Fitting (integrated b i g h)
unfolding integrated scale_of
integrated_fit b i g h = (mul-fits binary32 h _, mul-fits binary32 h _, mul-fits binary32 h _)

loaded_fit : (b : BodyState) → Fitting (solver_body_of b)
unfolding solver_body_of
loaded_fit b = origin_fits3

-- a warm start changes velocities alone
warmed_fit : (S : Setting) (c : Float) (last : JointTotals) (s : Step) (b : BodyPair) → Fit b → Fit (warmed_by S c last s b)
unfolding revolute_warmed prismatic_warmed spun pushed_by
warmed_fit S c last (compliant l k α) b f = f
warmed_fit S c last (hinge_motor m a₁ b₁ b₂) b f = either Fit (not m.enabled) b _ f (record { p₁ = f.p₁; p₂ = f.p₂ })
warmed_fit S c last (slide_motor m r₁ r₂ d axis) b f = either Fit (not m.enabled) b _ f (record { p₁ = f.p₁; p₂ = f.p₂ })

warm_fit : (S : Setting) (c : Float) (last : JointTotals) (l : List Step) (b : BodyPair) → Fit b → Fit (warmed S c last l b)
unfolding warmed
warm_fit S c last [] b f = f
warm_fit S c last (s ∷ l) b f = warm_fit S c last l (warmed_by S c last s b) (warmed_fit S c last s b f)

-- ---- the tick

module _ (K : Linkage) (s : List Float) where
  moving_fit : (i : ℕ) (b : SolverBody) (l : List SolverBody) → FitAll l → Fitting b → FitAll (put K i b l)
  moving_fit i b l f g = either FitAll (body K i).anchored l (set l i b) f (set_fit l i b f g)

  each_fit : (make : ℕ → SolverBody → SolverBody) → ((i : ℕ) (b : SolverBody) → Fitting (make i b)) → (l : List SolverBody) → FitAll l → FitAll (each_moving K make l)
  each_fit make g l f =
      after_all (λ i m. put K i (make i (get_or m i dummy_body)) m) l FitAll (length K.bodies) f
      (λ i m h k. moving_fit i (make i (get_or m i dummy_body)) m k (g i (get_or m i dummy_body)))

  pub pair_fit : (j : ℕ) (l : List SolverBody) → FitAll l → Fit (pair K j l)
  pair_fit j l f = record { p₁ = f (joint K j).body1; p₂ = f (joint K j).body2 }

  put_fit : (j : ℕ) (p : BodyPair) (l : List SolverBody) → FitAll l → Fit p → FitAll (put_pair K j p l)
  put_fit j p l f g =
      let k = joint K j in
      moving_fit k.body2 p.body2 (put K k.body1 p.body1 l) (moving_fit k.body1 p.body1 l f g.p₁) g.p₂

  load_fit : FitAll (loaded K s)
  unfolding loaded
  load_fit = each_fit (λ i b. solver_body_of (body_at s i)) (λ i b. loaded_fit (body_at s i)) (replicate (length K.bodies) dummy_body) (dummies_fit (length K.bodies))

  warm_start_fit : FitAll (warm_started K s)
  unfolding warm_started
  warm_start_fit =
      after_all (warm_start_next K s) (loaded K s) FitAll (length K.joints) load_fit
      (λ j l m f. either FitAll (skipped K s j) l _ f (put_fit j _ l f (warm_fit (setting K true j) _ _ (steps K s j) (pair K j l) (pair_fit j l f))))

  pre_solve_fit : FitAll (pre_solve_of K s)
  unfolding pre_solve_of
  pre_solve_fit = each_fit (λ i b. integrated b (body K i).inertia K.gravity K.dt) (λ i b. integrated_fit b (body K i).inertia K.gravity K.dt) (warm_started K s) warm_start_fit

  next_fit : (j : ℕ) (σ : Solved) → FitAll σ.bodies → FitAll (solve_next K s true j σ).bodies
  unfolding solve_next
  next_fit j σ f =
      let l = σ.bodies in
      either (λ (τ : Solved). FitAll τ.bodies) (skipped K s j) σ _ f (put_fit j _ l f (run_fit (setting K true j) (steps K s j) (found K s j σ) (pair_fit j l f)))

  -- what joint j finds
  pub found_fit : (j : ℕ) → FitAll (solved_to K s j).bodies
  unfolding solve_pass
  found_fit j =
      after_all (solve_next K s true) (record { bodies = pre_solve_of K s; totals = map (λ k. no_totals) K.joints; finite = true }) (λ (σ : Solved). FitAll σ.bodies) j
      pre_solve_fit (λ k σ m f. next_fit k σ f)
