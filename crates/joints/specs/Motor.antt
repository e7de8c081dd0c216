-- A motor's multiplier by its model, both the Rust's own. Definitions only.
use Rattle.std.specs.Prelude.{Bool, not, ◌&&◌, Option, None, Some, Float, if◌then◌else◌}
use Rattle.std.specs.Float.Ieee.{neg, lt, le}
use Rattle.scalar.specs.Arith.{◌⊕◌, ◌⊗◌, ◌⊘◌, f0, f1, f2, epsilon, largest, tau}
use Rattle.scalar.specs.Scalar.{abs_of, clamp_of}
use Rattle.joints.specs.declared.motor.MotorModel.{MotorModel}
use Rattle.joints.specs.declared.motor.MotorModel.TheVariants.{SpringDamper, AccelerationBased, ForceBased}

-- implicit Euler, with ω = 2π f: (ω² x + 2ζω v) h / (1 + 2ζω h + ω² h²)
unfoldable pub spring_damper_change : Float → Float → Float → Float → Float → Float
spring_damper_change f ζ v x h =
    let ω = tau ⊗ f in
    let ω² = ω ⊗ ω in
    let 2ζω = f2 ⊗ ζ ⊗ ω in
    (ω² ⊗ x ⊕ 2ζω ⊗ v) ⊗ h ⊗ (f1 ⊘ (f1 ⊕ 2ζω ⊗ h ⊕ ω² ⊗ h ⊗ h))

-- the change of velocity that a model asks for, by the errors v of velocity and x of position, at the weight w
unfoldable pub velocity_change : MotorModel → Float → Float → Float → Float → Float
velocity_change (SpringDamper f ζ) v x w h = spring_damper_change f ζ v x h
velocity_change (AccelerationBased k d) v x w h = d ⊗ v ⊕ k ⊗ x ⊗ h
velocity_change (ForceBased k d) v x w h = (k ⊗ x ⊕ d ⊗ v) ⊗ w

-- at most cap h² in size; a cap counts between 0 and the largest f32
unfoldable pub capped : Float → Float → Float → Float
capped Δλ cap h =
    let most = cap ⊗ h ⊗ h in
    if lt cap largest && lt f0 cap then clamp_of Δλ (neg most) most else Δλ

-- none where the correction is negligible
unfoldable pub motor_lagrange : MotorModel → Float → Float → Float → Float → Float → Option Float
motor_lagrange model cap v x w h =
    let correction = velocity_change model v x w h ⊗ h in
    if le (abs_of correction) epsilon then None else Some (capped (correction ⊘ w) cap h)

-- none where the motor is off or both bodies are as good as fixed
unfoldable pub unless_off : Bool → Float → Option Float → Option Float
unless_off enabled w given = if not enabled then None else if le w epsilon then None else given
