-- A card whose breaking loads are zero has the linkage of its twin without them.
use Prim.Native.Nat.{ℕ, suc}
use native.Mathlib.Omega.{arith}
use mathlib.Core.Path.{◌≡◌, refl, sym, ap, ap₂, ◌∙◌}
use mathlib.Core.Logic.{inl, inr}
use mathlib.Core.List.{List, [], ◌∷◌, map}
use lib.ListN.{get_or, take, drop, length-take, get_or-eq_default}
use lib.Seq.{take-take}
use lib.Ieee.{Float, of_bits, of_fields}
use Rattle.scalar.specs.Arith.{f32, f0}
use Rattle.scalar.specs.Scalar.{abs_of}
use Rattle.card.specs.Card.{at, Card}
use Rattle.loader.specs.Linkage.{fixed_in, distance_in, model_in, angular_motor_in, linear_motor_in, revolute_in, prismatic_in, spherical_in, kind_in, joint_of, linkage_of}
use Rattle.loader.specs.declared.joint.LinkJoint.{LinkJoint}
use Rattle.demand.specs.Breaks.{ZeroBits, Twins}

-- ---- a joint

zero_in_size : (n : ℕ) → ZeroBits n → abs_of (f32 n) ≡ f0
unfolding of_bits of_fields
zero_in_size n (inl e) = ap (λ k. abs_of (f32 k)) e
zero_in_size n (inr e) = ap (λ k. abs_of (f32 k)) e

same_joint : (j : List ℕ) → ZeroBits (at 37 j) → joint_of j ≡ joint_of (take 37 j)
unfolding kind_in fixed_in distance_in model_in angular_motor_in linear_motor_in revolute_in prismatic_in spherical_in
same_joint [] z = refl
same_joint (a ∷ []) z = refl
same_joint (a ∷ b ∷ []) z = refl
same_joint (a ∷ b ∷ c ∷ []) z = refl
same_joint (a ∷ b ∷ c ∷ d ∷ []) z = refl
same_joint (a ∷ b ∷ c ∷ d ∷ e ∷ []) z = refl
same_joint (a ∷ b ∷ c ∷ d ∷ e ∷ f ∷ []) z = refl
same_joint (a ∷ b ∷ c ∷ d ∷ e ∷ f ∷ g ∷ rest) z =
    let with : List ℕ → Float → LinkJoint = λ floats load. record { body1 = b; body2 = c; joint = kind_in (a ∷ b ∷ c ∷ d ∷ e ∷ f ∷ g ∷ rest) (map f32 floats); breaking_load = load } in
    let none : get_or (take 30 rest) 30 0 ≡ 0 = get_or-eq_default (take 30 rest) 0 {n = 30} (rw (length-take 30 rest) (omega arith)) in
    ap (with (take 30 rest)) (zero_in_size _ z) ∙ sym (ap₂ with (take-take 30 30 rest (omega arith)) (zero_in_size _ (inl none)))

same_joints : (l : List (List ℕ)) → ((j : ℕ) → ZeroBits (at 37 (get_or l j []))) → map joint_of l ≡ map joint_of (map (take 37) l)
same_joints [] z = refl
same_joints (j ∷ l) z = ap₂ ◌∷◌ (same_joint j (z 0)) (same_joints l (λ i. z (suc i)))

-- ---- the linkage

behind : (k : ℕ) (h : List ℕ) → at (suc k) h ≡ at k (drop 1 h)
behind k [] = refl
behind k (n ∷ h) = refl

module _ (c d : Card) (t : Twins c d) where
  number : (k : ℕ) → at (suc k) c.header ≡ at (suc k) d.header
  number k = behind k c.header ∙ ap (at k) t.header ∙ sym (behind k d.header)

  pub same_linkage : linkage_of c ≡ linkage_of d
  unfolding linkage_of
  same_linkage =
      let joints : map joint_of c.joints ≡ map joint_of d.joints = same_joints c.joints t.loads ∙ ap (map joint_of) t.joints in
      rw (number 2, number 4, number 5, t.bodies, joints)
