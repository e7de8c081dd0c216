-- What the steps of a tick and the ticks of a run hand to each other: Tick.antt needs none of it.
use Rattle.std.specs.Prelude.{ℕ, ◌+◌, Bool, true, false, List, map, length, eqb, Float, if◌then◌else◌}
use Rattle.joints.specs.declared.Joint.{Joint}
use Rattle.joints.specs.declared.Joint.TheVariants.{Fixed, Revolute, Prismatic, Spherical, Distance}
use Rattle.solver_body.specs.declared.SolverBody.{SolverBody}
use Rattle.xpbd_joints.specs.Steps.{Run}
use Rattle.tick.specs.Parts.{result_of}
use Rattle.tick.specs.declared.joint.JointResult.{JointResult}
use Rattle.numbers.specs.Lists.{concat, each, after}
use Rattle.loader.specs.Linkage.{Linkage}
use Rattle.state.specs.State.{totals_at, joint_numbers_of}
use Rattle.tick.specs.Tick.{Solved, body, joint, rigid, turned_linkage, new_joint, new_state, stopped}
use Rattle.tick.specs.Run.{Ran}

-- ---- a joint

-- joint j's
abbrev pub result_at : Linkage → List Float → ℕ → Run → JointResult
result_at K s j r =
    let k = joint K j in
    result_of k.joint (rigid K s k.body1) (rigid K s k.body2) (body K k.body1).inertia (body K k.body2).inertia r

-- whether it has a motor that is on
unfoldable pub driven : Joint → Bool
driven (Fixed j) = false
driven (Revolute j) = j.motor.enabled
driven (Prismatic j) = j.motor.enabled
driven (Spherical j) = false
driven (Distance j) = false

-- ---- the solve

-- as far as it has come with no number that isn't finite, the totals among the new state's numbers
abbrev pub solved_in : Linkage → List SolverBody → List Float → Solved
solved_in K bodies new = record { bodies = bodies; totals = each (totals_at (length K.bodies) new) (length K.joints); finite = true }

-- ---- the new state

-- the joints' numbers, behind the bodies'
abbrev pub new_joints : Linkage → List Float → List Float
new_joints K s = concat (map joint_numbers_of (each (new_joint K s) (length K.joints)))

-- ---- ticks in a row of a state that no check refuses

abbrev pub ran : ℕ → ℕ → List Float → Ran
ran n ticks s = record { number = n; ticks = ticks; state = s }

abbrev pub next_tick : Linkage → Ran → Ran
next_tick K a =
    let L = turned_linkage K a.state in if stopped L a.state then ran 13 a.ticks a.state else ran 0 (a.ticks + 1) (new_state L a.state)

unfoldable pub ticks_next : Linkage → ℕ → Ran → Ran
ticks_next K i a = if eqb a.number 0 then next_tick K a else a

unfoldable pub ticks_of : Linkage → List Float → ℕ → Ran
ticks_of K s n = after (ticks_next K) (ran 0 0 s) n

-- a refused run leaves the state as it was
abbrev pub all_or_nothing : List Float → Ran → Ran
all_or_nothing s a = ran a.number a.ticks (if eqb a.number 0 then a.state else s)
