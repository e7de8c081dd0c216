-- Document 01, 'One tick', of a linkage and a state: each body by itself, the joints in card order, those that break, and refusal 13.
use Rattle.std.specs.Prelude.{ℕ, Bool, true, not, ◌||◌, ◌&&◌, List, [], map, length, get_or, set, replicate, Float, if◌then◌else◌}
use Rattle.scalar.specs.Scalar.{is_finite}
use Rattle.solver_body.specs.Body.{solver_body_of, dummy_body}
use Rattle.solver_body.specs.declared.BodyState.{BodyState}
use Rattle.solver_body.specs.declared.RigidBody.{RigidBody}
use Rattle.solver_body.specs.declared.SolverBody.{SolverBody}
use Rattle.solver_body.specs.declared.BodyPair.{BodyPair}
use Rattle.xpbd_joints.specs.Stage.{Setting}
use Rattle.xpbd_joints.specs.Steps.{no_totals, Step, steps_of, Run, run, Event, events, warmed}
use Rattle.xpbd_joints.specs.declared.JointTotals.{JointTotals}
use Rattle.numbers.specs.Lists.{all, each, after}
use Rattle.loader.specs.Linkage.{Linkage, body_of, joint_of}
use Rattle.loader.specs.declared.body.LinkBody.{LinkBody}
use Rattle.loader.specs.declared.joint.LinkJoint.{LinkJoint}
use Rattle.state.specs.State.{body_at, totals_at, broken_at, state_of, bad_numbers}
use Rattle.state.specs.declared.places.JointState.{JointState}
use Rattle.tick.specs.Body.{turned_body, integrated, finished_body}
use Rattle.tick.specs.Joint.{looked_at, overloaded}

-- the solver's bodies and the joints' totals after the joints so far, and whether all numbers looked at were finite
pub record Solved : Type 0 where
  pub bodies : List SolverBody
  pub totals : List JointTotals
  pub finite : Bool

module _ (K : Linkage) where
  -- no joint of an accepted card names a missing body
  abbrev pub body : ℕ → LinkBody
  body i = get_or K.bodies i (body_of [])

  abbrev pub joint : ℕ → LinkJoint
  joint j = get_or K.joints j (joint_of [])

  -- among the solver's bodies, an anchored one's place keeps the dummy
  abbrev pub put : ℕ → SolverBody → List SolverBody → List SolverBody
  put i b l = if (body i).anchored then l else set l i b

  -- each that moves, by itself
  abbrev pub each_moving : (ℕ → SolverBody → SolverBody) → List SolverBody → List SolverBody
  each_moving f l = after (λ i l. put i (f i (get_or l i dummy_body)) l) l (length K.bodies)

  abbrev pub integrated_at : ℕ → SolverBody → SolverBody
  integrated_at i b = integrated b (body i).inertia K.gravity K.dt

  -- joint j's two bodies, and what stays through its warm start and its solve
  abbrev pub pair : ℕ → List SolverBody → BodyPair
  pair j l = record { body1 = get_or l (joint j).body1 dummy_body; body2 = get_or l (joint j).body2 dummy_body }

  abbrev pub put_pair : ℕ → BodyPair → List SolverBody → List SolverBody
  put_pair j p l = put (joint j).body2 p.body2 (put (joint j).body1 p.body1 l)

  abbrev pub setting : Bool → ℕ → Setting
  setting motors j =
      record { dt = K.dt; motors = motors; inertia1 = (body (joint j).body1).inertia; inertia2 = (body (joint j).body2).inertia }

-- a linkage's bodies as a tick from s has them, their inertias turned once
unfoldable pub turned_linkage : Linkage → List Float → Linkage
turned_linkage K s =
    let bodies = each (λ i. turned_body (body_at s i).rotation (body K i)) (length K.bodies) in
    record { dt = K.dt; gravity = K.gravity; warm_coefficient = K.warm_coefficient; bodies = bodies; joints = K.joints }

module _ (K : Linkage) (s : List Float) where
  -- the pose is the state's, an anchored body's too
  abbrev pub rigid : ℕ → RigidBody
  rigid i = record { position = (body_at s i).position; rotation = (body_at s i).rotation; center_of_mass = (body K i).center_of_mass }

  -- a joint that is broken as the tick begins is passed over
  abbrev pub skipped : ℕ → Bool
  skipped j = broken_at (length K.bodies) s j

  unfoldable pub steps : ℕ → List Step
  steps j = let k = joint K j in steps_of k.joint (rigid k.body1) (rigid k.body2)

  -- ---- before the solve

  -- deltas zero and identity
  unfoldable pub loaded : List SolverBody
  loaded = each_moving K (λ i b. solver_body_of (body_at s i)) (replicate (length K.bodies) dummy_body)

  -- joint j's warm start, of the bodies as it finds them
  abbrev pub warmed_by : ℕ → List SolverBody → BodyPair
  warmed_by j l = warmed (setting K true j) K.warm_coefficient (totals_at (length K.bodies) s j) (steps j) (pair K j l)

  abbrev pub warm_start_next : ℕ → List SolverBody → List SolverBody
  warm_start_next j l = if skipped j then l else put_pair K j (warmed_by j l) l

  unfoldable pub warm_started : List SolverBody
  warm_started = after warm_start_next loaded (length K.joints)

  -- kept for the projections
  unfoldable pub pre_solve_of : List SolverBody
  pre_solve_of = each_moving K (integrated_at K) warm_started

  -- ---- the solve, in card order

  -- joint j finds the bodies as they are, and its totals zero
  abbrev pub found : ℕ → Solved → Run
  found j σ = record { bodies = pair K j σ.bodies; totals = no_totals }

  abbrev pub solved_by : Bool → ℕ → Solved → Run
  solved_by motors j σ = run (setting K motors j) (steps j) (found j σ)

  -- what refusal 13 looks at then
  abbrev pub looked : ℕ → Run → List Float
  looked j r =
      let k = joint K j in
      looked_at k.joint (rigid k.body1) (rigid k.body2) (body K k.body1).inertia (body K k.body2).inertia r

  unfoldable pub solve_next : Bool → ℕ → Solved → Solved
  solve_next motors j σ =
      let r = solved_by motors j σ in
      if skipped j then σ
      else record { bodies = put_pair K j r.bodies σ.bodies; totals = set σ.totals j r.totals; finite = σ.finite && all is_finite (looked j r) }

  -- the first n joints, with motors or without
  unfoldable pub solve_pass : Bool → Solved → ℕ → Solved
  solve_pass motors σ n = after (solve_next motors) σ n

  abbrev pub solved_to : ℕ → Solved
  solved_to n = solve_pass true (record { bodies = pre_solve_of; totals = map (λ j. no_totals) K.joints; finite = true }) n

  abbrev pub solved : Solved
  solved = solved_to (length K.joints)

  -- joint j's stages and pushes
  unfoldable pub events_at : ℕ → List Event
  events_at j = if skipped j then [] else events (setting K true j) (steps j) (found j (solved_to j))

  -- ---- after the solve

  unfoldable pub new_body : ℕ → BodyState
  new_body i =
      if (body K i).anchored then body_at s i
      else finished_body (rigid i) (get_or pre_solve_of i dummy_body) (get_or solved.bodies i dummy_body) K.dt

  unfoldable pub breaks : ℕ → Bool
  breaks j = overloaded (joint K j).breaking_load (get_or solved.totals j no_totals).first K.dt

  abbrev pub new_joint : ℕ → JointState
  new_joint j = record { totals = get_or solved.totals j no_totals; broken = skipped j || breaks j }

  unfoldable pub new_state : List Float
  new_state = state_of (each new_body (length K.bodies)) (each new_joint (length K.joints))

  -- refusal 13
  unfoldable pub stopped : Bool
  stopped = not solved.finite || bad_numbers (length K.bodies) new_state
