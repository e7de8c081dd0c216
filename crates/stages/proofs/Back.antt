-- Finite at the end of a joint's solve: finite all the way. Totals and displacements change by sums only, and a stage that returns early changes neither (or adds zero to its total).
use Rattle.std.specs.Prelude.{Option, None, Some, Float, if◌then◌else◌}
use mathlib.Core.Path.{◌≡◌, refl}
use mathlib.Core.Bool.{Bool, true, false}
use mathlib.Core.List.{List, [], ◌∷◌}
use lib.Dec.{T}
use lib.Ieee.{binary32, neg, of_bits}
use Rattle.vector.specs.Vector.{origin, neg_of, scale_of, times_of}
use Rattle.vector.specs.Rotation.{turn_of}
use Rattle.vector.specs.declared.Vec3.{Vec3}
use Rattle.vector.specs.declared.SymmetricTensor.{SymmetricTensor}
use Rattle.solver_body.specs.Body.{effective_inv_mass}
use Rattle.solver_body.specs.declared.SolverBodyInertia.{SolverBodyInertia}
use Rattle.solver_body.specs.declared.BodyPair.{BodyPair}
use Rattle.xpbd.specs.Positional.{pushed, pulled, impulse_applied}
use Rattle.xpbd.specs.Angular.{turned, angular_impulse_applied}
use Rattle.laws.proofs.Place.{real}
use Rattle.laws.proofs.Between.{finite_add}
use Rattle.xpbd_joints.specs.declared.JointTotals.{JointTotals}
use Rattle.xpbd_joints.specs.Stage.{Setting, entry_of, positional, Stage, correction_of, total_change, multiplier_of, applied_to, after_of}
use Rattle.xpbd_joints.specs.Steps.{Slot, first, second, third, fourth, added, Step, compliant, hinge_motor, slide_motor, Run, stage_at, is_called, uncalled, hinge_given, slide_given, hinge_driven, slide_driven, stepped, run, push_multiplier}
use Rattle.stages.proofs.Vec.{Finite3, add_back3, sub_back3, scale_back}

-- both displacements
pub record Still (b : BodyPair) : Type 0 where
  pub d₁ : Finite3 b.body1.delta_position
  pub d₂ : Finite3 b.body2.delta_position

pub record AllTotals (t : JointTotals) : Type 0 where
  pub f₁ : Finite3 t.first
  pub f₂ : Finite3 t.second
  pub f₃ : Finite3 t.third
  pub f₄ : Finite3 t.fourth

pub record Calm (r : Run) : Type 0 where
  pub still : Still r.bodies
  pub totals : AllTotals r.totals

-- ---- totals
added_back : (l : Slot) (p : Vec3) (t : JointTotals) → AllTotals (added l p t) → AllTotals t × Finite3 p
added_back first p t h = let k = add_back3 t.first p h.f₁ in (record { f₁ = k.0; f₂ = h.f₂; f₃ = h.f₃; f₄ = h.f₄ }, k.1)
added_back second p t h = let k = add_back3 t.second p h.f₂ in (record { f₁ = h.f₁; f₂ = k.0; f₃ = h.f₃; f₄ = h.f₄ }, k.1)
added_back third p t h = let k = add_back3 t.third p h.f₃ in (record { f₁ = h.f₁; f₂ = h.f₂; f₃ = k.0; f₄ = h.f₄ }, k.1)
added_back fourth p t h = let k = add_back3 t.fourth p h.f₄ in (record { f₁ = h.f₁; f₂ = h.f₂; f₃ = h.f₃; f₄ = k.0 }, k.1)

-- ---- displacements
impulse_back : (b : BodyPair) (i₁ i₂ : SolverBodyInertia) (p r₁ r₂ : Vec3) → Still (impulse_applied b i₁ i₂ p r₁ r₂) → Still b
unfolding impulse_applied pushed pulled
impulse_back b i₁ i₂ p r₁ r₂ h =
    record {
      d₁ = (add_back3 b.body1.delta_position (times_of p (effective_inv_mass i₁)) h.d₁).0;
      d₂ = (sub_back3 b.body2.delta_position (times_of p (effective_inv_mass i₂)) h.d₂).0;
    }

angular_back : (b : BodyPair) (I₁ I₂ : SymmetricTensor) (p : Vec3) → Still (angular_impulse_applied b I₁ I₂ p) → Still b
unfolding angular_impulse_applied turned
angular_back b I₁ I₂ p h = record { d₁ = h.d₁; d₂ = h.d₂ }

applied_back : (q : Bool) (s : Stage) → Still (applied_to q s) → Still s.bodies
applied_back true s h =
    impulse_back s.bodies s.setting.inertia1 s.setting.inertia2 (total_change s) (correction_of (entry_of s)).r₁ (correction_of (entry_of s)).r₂ h
applied_back false s h =
    angular_back s.bodies s.setting.inertia1.inv_angular_inertia s.setting.inertia2.inv_angular_inertia (scale_of (correction_of (entry_of s)).n (neg (multiplier_of s))) h

after_back : (s : Stage) → Still (after_of s) → Still s.bodies
unfolding after_of
after_back s h = applied_back (positional s.reads) s h

-- ---- one step
uncalled_back : (q : Bool) (l : Slot) (r : Run) → Calm (uncalled q l r) → Calm r
uncalled_back true l r h = h
uncalled_back false l r h = record { still = h.still; totals = (added_back l origin r.totals h.totals).0 }

-- v says whether the stage was called
pub done_back : (v : Bool) (l : Slot) (s : Stage) (r : Run) → s.bodies ≡ r.bodies
    → Calm (if v then record { bodies = after_of s; totals = added l (total_change s) r.totals } else uncalled (correction_of (entry_of s)).still l r)
    → Calm r × (T v → Finite3 (total_change s))
done_back true l s r e h =
    let k = added_back l (total_change s) r.totals h.totals in
    (record { still = rw e at (after_back s h.still); totals = k.0 }, λ _. k.1)
done_back false l s r e h = (uncalled_back (correction_of (entry_of s)).still l r h, λ x. absurd x)

pub hinge_back : (S : Setting) (g : Option Float) (a : Vec3) (r : Run) → Calm (hinge_driven S g a r) → Calm r × T (real (push_multiplier g))
unfolding of_bits
hinge_back S None a r h = (h, tt)
hinge_back S (Some Δλ) a r h =
    let k = added_back fourth (scale_of a Δλ) r.totals h.totals in (
      record {
        still = angular_back r.bodies S.inertia1.inv_angular_inertia S.inertia2.inv_angular_inertia (scale_of a (neg Δλ)) h.still;
        totals = k.0;
      },
      scale_back a Δλ k.1,
    )

pub slide_back : (S : Setting) (g : Option Float) (r₁ r₂ a : Vec3) (r : Run) → Calm (slide_driven S g r₁ r₂ a r) → Calm r × T (real (push_multiplier g))
unfolding of_bits
slide_back S None r₁ r₂ a r h = (h, tt)
slide_back S (Some Δλ) r₁ r₂ a r h =
    let t = r.totals in
    let f = h.totals in
    let k = add_back3 t.first (scale_of a Δλ) f.f₁ in (
      record {
        still = impulse_back r.bodies S.inertia1 S.inertia2 (neg_of (scale_of a Δλ)) r₁ r₂ h.still;
        totals =
            record { f₁ = k.0; f₂ = f.f₂; f₃ = ((finite_add binary32 t.third.x Δλ f.f₃.0).0, f.f₃.1, f.f₃.2); f₄ = f.f₄ };
      },
      scale_back a Δλ k.1,
    )

-- a motor's step, where motors push
driven_back : (v : Bool) (x r : Run) → (Calm x → Calm r) → Calm (if v then x else r) → Calm r
driven_back true x r f h = f h
driven_back false x r f h = h

pub step_back : (S : Setting) (s : Step) (r : Run) → Calm (stepped S s r) → Calm r
step_back S (compliant l k α) r h = (done_back (is_called (stage_at S k α r.bodies)) l (stage_at S k α r.bodies) r refl h).0
step_back S (hinge_motor m a₁ b₁ b₂) r h =
    driven_back S.motors _ r (λ k. (hinge_back S (hinge_given S m a₁ b₁ b₂ r.bodies) (turn_of r.bodies.body1.delta_rotation a₁) r k).0) h
step_back S (slide_motor m arm₁ arm₂ d axis) r h =
    let q₁ = r.bodies.body1.delta_rotation in
    driven_back S.motors _ r (λ k. (slide_back S (slide_given S m arm₁ arm₂ d axis r.bodies) (turn_of q₁ arm₁) (turn_of r.bodies.body2.delta_rotation arm₂) (turn_of q₁ axis) r k).0) h

-- ---- a list of steps
pub run_back : (S : Setting) (l : List Step) (r : Run) → Calm (run S l r) → Calm r
unfolding run
run_back S [] r h = h
run_back S (s ∷ l) r h = step_back S s r (run_back S l (stepped S s r) h)
