-- A limit within reach turns within reach.
use Rattle.std.proofs.lemmas.Option.{IfSome_then}
use mathlib.Core.Path.{◌≡◌, refl, sym, ap, ◌∙◌, subst}
use mathlib.Core.Bool.{Bool, true, false, ◌||◌, cond}
use Prim.Native.Nat.{ℕ, ◌*◌, ◌≤◌, ◌<◌}
use native.Mathlib.Omega.{arith}
use lib.Dec.{T}
use lib.IntN.{pos}
use lib.Ieee.{Float, nan, inf, fin, binary32, up, down, units, odd, size, round, mul, neg, unlike, lt, le, eq, of_bits}
use lib.Ieee.Bits.{is_true}
use lib.Ieee.Fits.{down_pos}
use lib.Ieee.Order.{round_mono}
use Rattle.laws.proofs.Rounding.{round_signed}
use Rattle.scalar.specs.Arith.{◌⊗◌, f7, half}
use Rattle.scalar.specs.Scalar.{abs_of, min_of, max_of, clamp_of}
use Rattle.scalar.proofs.Sizes.{abs_round, le→values}
use Rattle.trig.specs.Sine.{sixteen, sin_of, cos_of}
use Rattle.vector.specs.Rotation.{of_axis_angle, of_angle_in_reach}
use Rattle.vector.specs.declared.Vec3.{Vec3}
use Rattle.joints.specs.declared.AngleLimit.{AngleLimit}
use Rattle.joints.specs.declared.Joint.{Joint}
use Rattle.joints.specs.declared.Joint.TheVariants.{Fixed, Revolute, Prismatic, Spherical, Distance}
use Rattle.joints.specs.Limit.{outside_of, clamped}
use Rattle.joints.specs.Reach.{InReach, TurnsInReach, EachAngleLimit}

-- ---- half of at most 7 is at most 16

abs_neg : (x : Float) → abs_of (neg x) ≡ abs_of x
unfolding neg
abs_neg nan = refl
abs_neg (inf s) = refl
abs_neg (fin s m e) = refl

sized : (s : Bool) (a c : ℕ) → abs_of (round binary32 s a c) ≡ round binary32 false a c
sized false a c = sym (abs_round binary32 a c)
sized true a c = ap abs_of (round_signed binary32 false a c).2 ∙ abs_neg (round binary32 false a c) ∙ sym (abs_round binary32 a c)

sixteen_is : round binary32 false 16 1 ≡ sixteen
unfolding round units odd size of_bits
sixteen_is = refl

pub half_in_reach : (x : Float) → T (le (abs_of x) f7) → T (le (abs_of (x ⊗ half)) sixteen)
unfolding mul le lt eq of_bits
half_in_reach nan h = absurd h
half_in_reach (inf s) h = absurd h
half_in_reach (fin s m e) h =
    let a = m * up e * (1 * 1) in
    let c = down e * 2 in
    subst (λ (x : Float). T (le x sixteen)) (sym (sized (unlike s false) a c))
    (subst (λ (y : Float). T (le (round binary32 false a c) y)) sixteen_is
    (round_mono binary32 a c 16 1 (twice (down e) (down_pos e)) (omega arith) (wide (m * up e) (down e) (le→values m e 7 (pos 0) h))))
  where
    twice : (d : ℕ) → 0 < d → 0 < d * 2
    twice d h = omega arith

    wide : (a d : ℕ) → a * 1 ≤ 7 * 1 * d → a * (1 * 1) * 1 ≤ 16 * (d * 2)
    wide a d h = omega arith

-- ---- an angle outside is clamped to one of the ends

pub clamped_in_reach : (l : AngleLimit) (φ : Float) → InReach l → outside_of l φ ≡ true → T (le (abs_of (clamped l φ)) f7)
unfolding clamp_of min_of max_of
clamped_in_reach l φ r h = go (lt φ l.min) h
  where
    ends : (b : Bool) → T (le (abs_of (cond b l.max l.min)) f7)
    ends true = r.1
    ends false = r.0

    go : (b : Bool) → (b || lt l.max φ) ≡ true → T (le (abs_of (cond (lt l.max (cond b l.min φ)) l.max (cond b l.min φ))) f7)
    go true h = ends (lt l.max l.min)
    go false h = rw h r.1

same_turn : (x : Float) → T (le (abs_of (x ⊗ half)) sixteen) → (n : Vec3) → of_angle_in_reach n x ≡ of_axis_angle n x
unfolding of_angle_in_reach of_axis_angle sin_of cos_of
same_turn x h n = rw (is_true (le (abs_of (x ⊗ half)) sixteen) h) refl

nan_above : (x : Float) → lt x nan ≡ false
unfolding lt
nan_above nan = refl
nan_above (inf s) = refl
nan_above (fin s m e) = refl

turns_in_reach : (l : AngleLimit) → InReach l → TurnsInReach l
unfolding lt
turns_in_reach l r =
    record {
      angle = λ φ h. clamped_in_reach l φ r h;
      half_angle = λ φ h. half_in_reach (clamped l φ) (clamped_in_reach l φ r h);
      turn = λ φ h n. same_turn (clamped l φ) (half_in_reach (clamped l φ) (clamped_in_reach l φ r h)) n;
      no_angle = nan_above l.max;
    }

-- ---- of each limit

pub each_turns : (j : Joint) → EachAngleLimit InReach j → EachAngleLimit TurnsInReach j
each_turns (Fixed j) r = tt
each_turns (Revolute j) r = IfSome_then j.angle_limit r turns_in_reach
each_turns (Prismatic j) r = tt
each_turns (Spherical j) r = (IfSome_then j.swing_limit r.0 turns_in_reach, IfSome_then j.twist_limit r.1 turns_in_reach)
each_turns (Distance j) r = tt
