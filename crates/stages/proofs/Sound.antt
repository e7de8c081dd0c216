-- What a joint's solve whose end is finite leaves of each stage and push: `SoundStage` and `SoundPush`, all that the laws of rounding ask for.
use Rattle.std.specs.List.{AllByRecursion}
use Rattle.std.specs.Prelude.{Option, None, Some, if◌then◌else◌}
use mathlib.Core.Path.{refl}
use mathlib.Core.Bool.{Bool, true, false, not}
use mathlib.Core.List.{List, [], ◌∷◌, ◌++◌, Memᴰ}
use lib.Dec.{T}
use lib.Ieee.{Float, binary32, lt, le, fits}
use lib.Ieee.Fits.{sub-fits, div-fits}
use lib.Ieee.Bits.{of_bits-fits}
use Rattle.scalar.specs.Arith.{◌⊖◌, ◌⊗◌, ◌⊘◌, f0, epsilon, pi}
use Rattle.scalar.specs.Scalar.{abs_of}
use Rattle.vector.specs.Vector.{neg_of, scale_of, div_of, cross_of, length_of, length_squared_of}
use Rattle.vector.specs.Rotation.{turn_of}
use Rattle.vector.specs.declared.Vec3.{Vec3}
use Rattle.joints.specs.Limit.{uncorrected, distance_correction, angle_correction}
use Rattle.joints.specs.Motor.{velocity_change, capped, motor_lagrange, unless_off}
use Rattle.joints.specs.declared.DistanceLimit.{DistanceLimit}
use Rattle.joints.specs.declared.DistanceCorrection.{DistanceCorrection}
use Rattle.joints.specs.declared.AngleCorrection.{AngleCorrection}
use Rattle.joints.specs.declared.AngleCorrection.TheVariants as limit
use Rattle.joints.specs.declared.motor.MotorModel.{MotorModel}
use Rattle.joints.specs.declared.motor.AngularMotor.{AngularMotor}
use Rattle.joints.specs.declared.motor.LinearMotor.{LinearMotor}
use Rattle.solver_body.specs.Body.{effective_inv_mass}
use Rattle.solver_body.specs.declared.BodyPair.{BodyPair}
use Rattle.xpbd.specs.FixedAngle.{rotation_difference_of}
use Rattle.xpbd.specs.Positional.{pushed, pulled, impulse_applied}
use Rattle.xpbd.specs.Angular.{turned, angular_impulse_applied}
use Rattle.xpbd_joints.specs.Revolute.{angular_motor_given}
use Rattle.xpbd_joints.specs.Prismatic.{linear_motor_given, slide_correction}
use Rattle.xpbd_joints.specs.Spherical.{swing_correction, twist_correction}
use Rattle.laws.proofs.Place.{real, Held}
use Rattle.xpbd_joints.specs.Stage.{Reads, point, angle, hinge_align, hinge_limit, slide_align, swing, twist, tether, positional, Entry, limited, limit_asked, turned₁, turned₂, separation, asked, Setting, Stage, entry_of, correction_of, multiplier_at, total_change, applied_to, after_of}
use Rattle.xpbd_joints.specs.Steps.{Slot, added, Step, compliant, hinge_motor, slide_motor, Run, stage_at, is_called, uncalled, hinge_given, slide_given, hinge_driven, slide_driven, stepped, run, MotorPush, push_multiplier, Event, a_stage, a_push, events_of, events}
use Rattle.stages.proofs.Choice.{either}
use Rattle.stages.proofs.Vec.{Finite3, Fits3, Held3, held3, add_fits3, sub_fits3, div_fits3, origin_fits3, length_fits}
use Rattle.stages.proofs.Back.{Calm, done_back, hinge_back, slide_back, run_back}

-- a stage entered with e at the compliance α
pub record SoundEntry (e : Entry) (α : Float) : Type 0 where
  pub error_fits : T (fits binary32 (correction_of e).error)
  pub n_fits : Fits3 (correction_of e).n
  pub soft_fits : T (fits binary32 α)
  pub soft_up : T (le f0 α)
  pub change : Finite3 (scale_of (correction_of e).n (multiplier_at e α))
  pub d₁ : Held3 e.b₁.x
  pub d₂ : Held3 e.b₂.x
  pub q₁ : Held3 e.b₁.m
  pub q₂ : Held3 e.b₂.m

abbrev pub SoundStage : Stage → Type 0
SoundStage s = SoundEntry (entry_of s) s.compliance

-- what a motor gives: none, or a multiplier after the cap
pub data Given (cap dt : Float) : Option Float → Type 0 where
  given_none : Given cap dt None
  given_some : (x : Float) → T (fits binary32 x) → Given cap dt (Some (capped x cap dt))

pub record SoundPush (p : MotorPush) : Type 0 where
  pub cap_fits : T (fits binary32 p.cap)
  pub dt_held : Held binary32 p.dt
  pub shape : Given p.cap p.dt p.given
  pub no_nan : T (real (push_multiplier p.given))

abbrev pub EventSound : Event → Type 0
EventSound (a_stage s) = SoundStage s
EventSound (a_push p) = SoundPush p

-- ---- each of a list
pub all_append : {A : Type 0} (P : A → Type 0) (l m : List A) → AllByRecursion P l → AllByRecursion P m → AllByRecursion P (l ++ m)
all_append P [] m h k = k
all_append P (x ∷ l) m h k = (h.0, all_append P l m h.1 k)

pub all_at : {A : Type 0} (P : A → Type 0) {x : A} {l : List A} → AllByRecursion P l → Memᴰ x l → P x
all_at P h (Memᴰ.head e) = rw e h.0
all_at P h (Memᴰ.tail m) = all_at P h.1 m

-- ---- what a joint brings
pub record SettingOk (S : Setting) : Type 0 where
  pub dt_held : Held binary32 S.dt
  pub m₁ : Held3 (effective_inv_mass S.inertia1)
  pub m₂ : Held3 (effective_inv_mass S.inertia2)

abbrev pub StepOk : Step → Type 0
StepOk (compliant l k α) = T (fits binary32 α) × T (le f0 α)
StepOk (hinge_motor m a b c) = T (fits binary32 m.max_torque)
StepOk (slide_motor m a b c d) = T (fits binary32 m.max_force)

-- both displacements are of the format
pub record Fit (b : BodyPair) : Type 0 where
  pub p₁ : Fits3 b.body1.delta_position
  pub p₂ : Fits3 b.body2.delta_position

-- ---- errors and directions fit
abbrev FitAsked : Float → Vec3 → Type 0
FitAsked c n = T (fits binary32 c) × Fits3 n

abbrev CorrectionFits : DistanceCorrection → Type 0
CorrectionFits c = FitAsked c.magnitude c.direction

distance_fits : (l : DistanceLimit) (s : Vec3) → CorrectionFits (distance_correction l s)
unfolding distance_correction
distance_fits l s =
    let d = length_of s in
    let longer : DistanceCorrection = record { direction = div_of s d; magnitude = l.min ⊖ d } in
    let shorter : DistanceCorrection = record { direction = div_of (neg_of s) d; magnitude = d ⊖ l.max } in
    let none : CorrectionFits uncorrected = (of_bits-fits binary32 0, origin_fits3) in
    let high = if lt l.max d then shorter else uncorrected in
    either CorrectionFits (le (length_squared_of s) epsilon) uncorrected (if lt d l.min then longer else high) none
    (either CorrectionFits (lt d l.min) longer high (sub-fits binary32 l.min d, div_fits3 s d)
    (either CorrectionFits (lt l.max d) shorter uncorrected (sub-fits binary32 d l.max, div_fits3 (neg_of s) d) none))

rotation_fits : (d : Vec3) → FitAsked (length_of d) (div_of d (length_of d))
rotation_fits d = (length_fits d, div_fits3 d (length_of d))

limit_fits : (e : Entry) (c : AngleCorrection) → FitAsked (limit_asked e c).error (limit_asked e c).n
limit_fits e limit.None = (of_bits-fits binary32 0, origin_fits3)
limit_fits e (limit.Some d) = rotation_fits d

asked_fits : (k : Reads) (e : Entry) → FitAsked (asked e k).error (asked e k).n
asked_fits (point a b d) e = let s = separation e a b d in (length_fits s, div_fits3 (neg_of s) (length_of s))
asked_fits (angle q) e = rotation_fits (rotation_difference_of q e.b₁.q e.b₂.q)
asked_fits (hinge_align a b) e = rotation_fits (cross_of (turned₁ e a) (turned₂ e b))
asked_fits (hinge_limit o a₁ b₁ b₂) e = limit_fits e (limited o (λ l. angle_correction l (turned₁ e a₁) (turned₁ e b₁) (turned₂ e b₂) pi))
asked_fits (slide_align o a b d axis) e = rotation_fits (slide_correction o (separation e a b d) (turned₁ e axis))
asked_fits (swing o a₁ a₂) e = limit_fits e (limited o (λ l. swing_correction l (turned₁ e a₁) (turned₂ e a₂)))
asked_fits (twist o a₁ a₂ b₁ b₂) e = limit_fits e (limited o (λ l. twist_correction l (turned₁ e a₁) (turned₂ e a₂) (turned₁ e b₁) (turned₂ e b₂) e.dt))
asked_fits (tether l a b d) e = distance_fits l (separation e a b d)

correction_fits : (e : Entry) → FitAsked (correction_of e).error (correction_of e).n
unfolding correction_of
correction_fits e = asked_fits e.reads e

-- ---- a motor's shape
lagrange_shape : (model : MotorModel) (cap v x w h : Float) → Given cap h (motor_lagrange model cap v x w h)
unfolding motor_lagrange
lagrange_shape model cap v x w h =
    let c = velocity_change model v x w h ⊗ h in
    either (Given cap h) (le (abs_of c) epsilon) None (Some (capped (c ⊘ w) cap h)) given_none (given_some (c ⊘ w) (div-fits binary32 c w))

off_shape : (enabled : Bool) (cap w h : Float) (g : Option Float) → Given cap h g → Given cap h (unless_off enabled w g)
unfolding unless_off
off_shape enabled cap w h g k =
    either (Given cap h) (not enabled) None (if le w epsilon then None else g) given_none (either (Given cap h) (le w epsilon) None g given_none k)

hinge_shape : (S : Setting) (m : AngularMotor) (a₁ b₁ b₂ : Vec3) (b : BodyPair) → Given m.max_torque S.dt (hinge_given S m a₁ b₁ b₂ b)
unfolding angular_motor_given
hinge_shape S m a₁ b₁ b₂ b = off_shape m.enabled m.max_torque _ S.dt _ (lagrange_shape m.motor_model m.max_torque _ _ _ S.dt)

slide_shape : (S : Setting) (m : LinearMotor) (arm₁ arm₂ d axis : Vec3) (b : BodyPair) → Given m.max_force S.dt (slide_given S m arm₁ arm₂ d axis b)
unfolding linear_motor_given
slide_shape S m arm₁ arm₂ d axis b = off_shape m.enabled m.max_force _ S.dt _ (lagrange_shape m.motor_model m.max_force _ _ _ S.dt)

-- ---- displacements fit, step by step
applied_fit : (q : Bool) (s : Stage) → Fit s.bodies → Fit (applied_to q s)
unfolding impulse_applied pushed pulled angular_impulse_applied turned
applied_fit true s f = record { p₁ = add_fits3 _ _; p₂ = sub_fits3 _ _ }
applied_fit false s f = record { p₁ = f.p₁; p₂ = f.p₂ }

after_fit : (s : Stage) → Fit s.bodies → Fit (after_of s)
unfolding after_of
after_fit s f = applied_fit (positional s.reads) s f

uncalled_fit : (q : Bool) (l : Slot) (r : Run) → Fit r.bodies → Fit (uncalled q l r).bodies
uncalled_fit true l r f = f
uncalled_fit false l r f = f

done_fit : (v : Bool) (l : Slot) (s : Stage) (r : Run) → Fit s.bodies → Fit r.bodies
    → Fit (if v then record { bodies = after_of s; totals = added l (total_change s) r.totals } else uncalled (correction_of (entry_of s)).still l r).bodies
done_fit true l s r f g = after_fit s f
done_fit false l s r f g = uncalled_fit (correction_of (entry_of s)).still l r g

hinge_fit : (S : Setting) (g : Option Float) (a : Vec3) (r : Run) → Fit r.bodies → Fit (hinge_driven S g a r).bodies
unfolding angular_impulse_applied turned
hinge_fit S None a r f = f
hinge_fit S (Some Δλ) a r f = record { p₁ = f.p₁; p₂ = f.p₂ }

slide_fit : (S : Setting) (g : Option Float) (r₁ r₂ a : Vec3) (r : Run) → Fit r.bodies → Fit (slide_driven S g r₁ r₂ a r).bodies
unfolding impulse_applied pushed pulled
slide_fit S None r₁ r₂ a r f = f
slide_fit S (Some Δλ) r₁ r₂ a r f = record { p₁ = add_fits3 _ _; p₂ = sub_fits3 _ _ }

pub step_fit : (S : Setting) (s : Step) (r : Run) → Fit r.bodies → Fit (stepped S s r).bodies
step_fit S (compliant l k α) r f = done_fit (is_called (stage_at S k α r.bodies)) l (stage_at S k α r.bodies) r f f
step_fit S (hinge_motor m a₁ b₁ b₂) r f =
    either (λ (x : Run). Fit x.bodies) S.motors _ r (hinge_fit S (hinge_given S m a₁ b₁ b₂ r.bodies) (turn_of r.bodies.body1.delta_rotation a₁) r f) f
step_fit S (slide_motor m arm₁ arm₂ d axis) r f =
    let q₁ = r.bodies.body1.delta_rotation in
    either (λ (x : Run). Fit x.bodies) S.motors _ r
    (slide_fit S (slide_given S m arm₁ arm₂ d axis r.bodies) (turn_of q₁ arm₁) (turn_of r.bodies.body2.delta_rotation arm₂) (turn_of q₁ axis) r f) f

pub run_fit : (S : Setting) (l : List Step) (r : Run) → Fit r.bodies → Fit (run S l r).bodies
unfolding run
run_fit S [] r f = f
run_fit S (s ∷ l) r f = run_fit S l (stepped S s r) (step_fit S s r f)

-- ---- a step's events
listed : (v : Bool) (s : Stage) → (T v → SoundStage s) → AllByRecursion EventSound (if v then a_stage s ∷ [] else [])
listed true s h = (h tt, tt)
listed false s h = tt

-- a motor's push, where motors push
pushed_sound : (v : Bool) (p : MotorPush) (x r : Run) → (Calm x → SoundPush p) → Calm (if v then x else r) → AllByRecursion EventSound (if v then a_push p ∷ [] else [])
pushed_sound true p x r f h = (f h, tt)
pushed_sound false p x r f h = tt

step_sound : (S : Setting) → SettingOk S → (s : Step) → StepOk s → (r : Run) → Fit r.bodies → Calm (stepped S s r) → AllByRecursion EventSound (events_of S s r.bodies)
unfolding total_change
step_sound S o (compliant l k α) a r f h =
    let s = stage_at S k α r.bodies in
    let b = done_back (is_called s) l s r refl h in
    let c = correction_fits (entry_of s) in
    listed (is_called s) s (λ (v : T (is_called s)). record {
      error_fits = c.0;
      n_fits = c.1;
      soft_fits = a.0;
      soft_up = a.1;
      change = b.1 v;
      d₁ = held3 r.bodies.body1.delta_position f.p₁ b.0.still.d₁;
      d₂ = held3 r.bodies.body2.delta_position f.p₂ b.0.still.d₂;
      q₁ = o.m₁;
      q₂ = o.m₂;
    })
step_sound S o (hinge_motor m a₁ b₁ b₂) a r f h =
    let g = hinge_given S m a₁ b₁ b₂ r.bodies in
    let axis = turn_of r.bodies.body1.delta_rotation a₁ in
    pushed_sound S.motors (record { cap = m.max_torque; dt = S.dt; given = g }) (hinge_driven S g axis r) r
    (λ (k : Calm (hinge_driven S g axis r)). record { cap_fits = a; dt_held = o.dt_held; shape = hinge_shape S m a₁ b₁ b₂ r.bodies; no_nan = (hinge_back S g axis r k).1 }) h
step_sound S o (slide_motor m arm₁ arm₂ d axis) a r f h =
    let q₁ = r.bodies.body1.delta_rotation in
    let g = slide_given S m arm₁ arm₂ d axis r.bodies in
    let r₁ = turn_of q₁ arm₁ in
    let r₂ = turn_of r.bodies.body2.delta_rotation arm₂ in
    let x = slide_driven S g r₁ r₂ (turn_of q₁ axis) r in
    pushed_sound S.motors (record { cap = m.max_force; dt = S.dt; given = g }) x r
    (λ (k : Calm x). record { cap_fits = a; dt_held = o.dt_held; shape = slide_shape S m arm₁ arm₂ d axis r.bodies; no_nan = (slide_back S g r₁ r₂ (turn_of q₁ axis) r k).1 }) h

-- ---- a joint's
pub steps_sound : (S : Setting) → SettingOk S → (l : List Step) → AllByRecursion StepOk l → (r : Run) → Fit r.bodies → Calm (run S l r) → AllByRecursion EventSound (events S l r)
unfolding run events
steps_sound S o [] a r f h = tt
steps_sound S o (s ∷ l) a r f h =
    all_append EventSound (events_of S s r.bodies) (events S l (stepped S s r)) (step_sound S o s a.0 r f (run_back S l (stepped S s r) h)) (steps_sound S o l a.1 (stepped S s r) (step_fit S s r f) h)
