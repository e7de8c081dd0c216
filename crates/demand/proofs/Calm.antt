-- What refusal 13 lets pass after a joint's solve is finite, as the laws of its stages ask.
use mathlib.Core.Path.{subst}
use mathlib.Core.Bool.{Bool, true, ◌&&◌}
use mathlib.Core.List.{List, ◌++◌}
use lib.Dec.{T}
use lib.Ieee.{Float}
use lib.Ieee.Fits.{and_l, and_r}
use lib.Ieee.Scale.{finite}
use Rattle.scalar.specs.Scalar.{is_finite}
use Rattle.scalar.proofs.Finite.{is_finite_lem}
use Rattle.vector.specs.declared.Vec3.{Vec3}
use Rattle.joints.specs.declared.Joint.{Joint}
use Rattle.solver_body.specs.declared.RigidBody.{RigidBody}
use Rattle.solver_body.specs.declared.SolverBody.{SolverBody}
use Rattle.solver_body.specs.declared.SolverBodyInertia.{SolverBodyInertia}
use Rattle.xpbd_joints.specs.Steps.{Run}
use Rattle.xpbd_joints.specs.declared.JointTotals.{JointTotals}
use Rattle.stages.proofs.Vec.{Finite3}
use Rattle.stages.proofs.Back.{AllTotals, Calm}
use Rattle.numbers.specs.Lists.{all}
use Rattle.numbers.specs.Numbers.{numbers3, numbers4, numbers6}
use Rattle.state.specs.State.{totals_numbers}
use Rattle.tick.specs.Joint.{prepared_numbers, solver_numbers, looked_at}
use Rattle.tick.proofs.All.{three, four}

finite_is : (x : Float) → T (is_finite x) → T (finite x)
finite_is x h = subst T (is_finite_lem x) h

abbrev Finite : List Float → Type 0
Finite l = T (all is_finite l)

vector_finite : (v : Vec3) → Finite (numbers3 v) → Finite3 v
unfolding all
vector_finite v h =
    let x = is_finite v.x in
    let y = is_finite v.y in
    let z = is_finite v.z in
    let yz = and_r x (y && (z && true)) h in
    (finite_is v.x (and_l x (y && (z && true)) h), finite_is v.y (and_l y (z && true) yz), finite_is v.z (and_l z true (and_r y (z && true) yz)))

-- the first part of three
first_part : (l m n : List Float) → Finite (l ++ m ++ n) → Finite l
first_part l m n h =
    let M = all is_finite m in
    and_l (all is_finite l) M (and_l (all is_finite l && M) (all is_finite n) (subst T (three l m n) h))

-- the four parts of a list
module _ (l m n o : List Float) (h : Finite (l ++ m ++ n ++ o)) where
  abbrev L : Bool
  L = all is_finite l

  abbrev M : Bool
  M = all is_finite m

  abbrev N : Bool
  N = all is_finite n

  abbrev O : Bool
  O = all is_finite o

  every : T (L && M && N && O)
  every = subst T (four l m n o) h

  part_1 : Finite l
  part_1 = and_l L M (and_l (L && M) N (and_l (L && M && N) O every))

  part_2 : Finite m
  part_2 = and_r L M (and_l (L && M) N (and_l (L && M && N) O every))

  part_3 : Finite n
  part_3 = and_r (L && M) N (and_l (L && M && N) O every)

  part_4 : Finite o
  part_4 = and_r (L && M && N) O every

displacement_finite : (b : SolverBody) → Finite (solver_numbers b) → Finite3 b.delta_position
displacement_finite b h =
    vector_finite b.delta_position (part_3 (numbers3 b.linear_velocity) (numbers3 b.angular_velocity) (numbers3 b.delta_position) (numbers4 b.delta_rotation) h)

totals_finite : (t : JointTotals) → Finite (totals_numbers t) → AllTotals t
totals_finite t h =
    let a = numbers3 t.first in
    let b = numbers3 t.second in
    let c = numbers3 t.third in
    let d = numbers3 t.fourth in
    record {
      f₁ = vector_finite t.first (part_1 a b c d h);
      f₂ = vector_finite t.second (part_2 a b c d h);
      f₃ = vector_finite t.third (part_3 a b c d h);
      f₄ = vector_finite t.fourth (part_4 a b c d h);
    }

pub solve_calm : (j : Joint) (b₁ b₂ : RigidBody) (i₁ i₂ : SolverBodyInertia) (r : Run) → T (all is_finite (looked_at j b₁ b₂ i₁ i₂ r)) → Calm r
solve_calm j b₁ b₂ i₁ i₂ r k =
    let p = prepared_numbers j b₁ b₂ in
    let t = totals_numbers r.totals in
    let b = solver_numbers r.bodies.body1 in
    let c = solver_numbers r.bodies.body2 in
    let h = first_part (p ++ t ++ b ++ c) (numbers6 i₁.inv_angular_inertia) (numbers6 i₂.inv_angular_inertia) k in
    record {
      still = record { d₁ = displacement_finite r.bodies.body1 (part_3 p t b c h); d₂ = displacement_finite r.bodies.body2 (part_4 p t b c h) };
      totals = totals_finite r.totals (part_2 p t b c h);
    }
