use mathlib.Core.Path.{◌≡◌, sym, subst}
use mathlib.Core.Bool.{true}
use lib.Dec.{T}
use lib.Ieee.{Float, le}
use Rattle.scalar.specs.Arith.{◌⊗◌, half}
use Rattle.scalar.specs.Scalar.{abs_of}
use Rattle.trig.specs.Sine.{sixteen}
use Rattle.joints.specs.Limit.{outside_of, clamped}
use Rattle.joints.proofs.Reach.{half_in_reach, clamped_in_reach}
use Rattle.joints.proofs.AngleLimit.compute_correction.Goals.{then-phi-self-via-then-phi-self, then-phi-self-via-else-phi-self+then-phi-self-2}
use Rattle.joints.proofs.AngleLimit.compute_correction.Goals as goal

pub from_angle_in_reach-rot-requires : goal.from_angle_in_reach-rot-requires
from_angle_in_reach-rot-requires c =
    let c1 = c.before in
    let c3 = c1.before.before in
    let l = c3.before.args.self in
    let φ = c3.angle_about-phi.result in
    let outside : outside_of l φ ≡ true =
    elim c.then-phi-self.branch [ then-phi-self-via-then-phi-self w ↦ simp w.if-phi-self.true | then-phi-self-via-else-phi-self+then-phi-self-2 w ↦ simp (w.if-phi-self.false, w.if-phi-self-2.true) ] in
    subst (λ (x : Float). T (le (abs_of (x ⊗ half)) sixteen)) (sym c.clamp.ensures)
    (half_in_reach (clamped l φ) (clamped_in_reach l φ c3.before.requires outside))
