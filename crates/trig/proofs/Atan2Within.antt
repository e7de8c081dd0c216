-- `atan2` lies within 2^-20 of the exact value, for finite y and x that are not both zero.
use Rattle.std.proofs.Common.{◌≡◌, ℕ, ◌*◌, ◌^◌, ◌<◌, ◌≤◌, Bool, true, false, cond, ◌&&◌, T, ℤ, sym, refl, subst, mul-pos}
use lib.Ieee.{Float, nan, inf, fin, binary32, up, down, div, sub, neg, lt, eq}
use lib.Ieee.Fits.{down_pos, up_pos}
use Rattle.scalar.specs.Scalar.{is_finite}
use Rattle.scalar.specs.Arith.{f0, pi}
use Rattle.trig.specs.Arctangent.{atan_of, quadrant_angle, half_plane_angle, angle_of, atan2_of, half_pi}
use Rattle.trig.specs.Accuracy.{QuadrantWithin, Atan2Within}
use Rattle.scalar.proofs.Sizes.{neg-neg, abs_is_zero, abs_round}
use Rattle.trig.proofs.SmallerOverLarger.{div_is, at_most_one, above, beside}
use Rattle.trig.proofs.SmallArctangent.{Arctan}
use Rattle.trig.proofs.QuotientArctangent.{quotient_value}
use Rattle.trig.proofs.QuadrantsWithin.{flat, steep, left, both}

module _ (m : ℕ) (e : ℤ) (n : ℕ) (d : ℤ) (some : (eq (fin false m e) f0 && eq (fin false n d) f0) ≡ false) where
  abbrev H : ℕ
  H = m * up e * down d

  abbrev W : ℕ
  W = n * up d * down e

  -- the arctangent of the smaller over the larger
  over : (k : ℕ) (a : ℤ) (l : ℕ) (b : ℤ) → 0 < l → k * up a * down b ≤ l * up b * down a → Arctan (atan_of (div binary32 (fin false k a) (fin false l b))) (k * up a * down b) (l * up b * down a) (392 * 2 ^ 119)
  over k a l b p h =
      let q = mul-pos (mul-pos p (up_pos b)) (down_pos a) in
      subst (λ (t : Float). Arctan (atan_of t) (k * up a * down b) (l * up b * down a) (392 * 2 ^ 119)) (sym (div_is k a l b p)) (quotient_value (k * up a * down b) (l * up b * down a) q h (at_most_one (k * up a * down b) (l * up b * down a) q h) (abs_round binary32 (k * up a * down b) (l * up b * down a)))

  quadrant : (x : Bool) (b : Bool) → lt (fin false n d) (fin false m e) ≡ b →
      QuadrantWithin b x H W (cond x (sub binary32 pi (cond b (sub binary32 half_pi (atan_of (div binary32 (fin false n d) (fin false m e)))) (atan_of (div binary32 (fin false m e) (fin false n d))))) (cond b (sub binary32 half_pi (atan_of (div binary32 (fin false n d) (fin false m e)))) (atan_of (div binary32 (fin false m e) (fin false n d)))))
  quadrant x true k = by x
    where
      a : (0 < m) × (W ≤ H)
      a = above m e n d k

      q : 0 < H
      q = mul-pos (mul-pos a.0 (up_pos e)) (down_pos d)

      A : Arctan (atan_of (div binary32 (fin false n d) (fin false m e))) W H (392 * 2 ^ 119)
      A = over n d m e a.0 a.1

      by : (x : Bool) → QuadrantWithin true x H W (cond x (sub binary32 pi (sub binary32 half_pi (atan_of (div binary32 (fin false n d) (fin false m e))))) (sub binary32 half_pi (atan_of (div binary32 (fin false n d) (fin false m e)))))
      by true = both W H q a.1 (atan_of (div binary32 (fin false n d) (fin false m e))) A
      by false = steep W H q a.1 (atan_of (div binary32 (fin false n d) (fin false m e))) A
  quadrant x false k = by x
    where
      a : (0 < n) × (H ≤ W)
      a = beside m e n d k some

      q : 0 < W
      q = mul-pos (mul-pos a.0 (up_pos d)) (down_pos e)

      A : Arctan (atan_of (div binary32 (fin false m e) (fin false n d))) H W (392 * 2 ^ 119)
      A = over m e n d a.0 a.1

      by : (x : Bool) → QuadrantWithin false x H W (cond x (sub binary32 pi (atan_of (div binary32 (fin false m e) (fin false n d)))) (atan_of (div binary32 (fin false m e) (fin false n d))))
      by true = left H W q a.1 (atan_of (div binary32 (fin false m e) (fin false n d))) A
      by false = flat H W q a.1 (atan_of (div binary32 (fin false m e) (fin false n d))) A

-- finite y and x, not both zero
pub atan2_within : (y x : Float) → is_finite y ≡ true → is_finite x ≡ true → (eq y f0 && eq x f0) ≡ false → Atan2Within y x (atan2_of y x)
unfolding is_finite lt atan2_of angle_of half_plane_angle quadrant_angle
atan2_within nan x h k s = absurd (subst T (sym h) tt)
atan2_within (inf t) x h k s = absurd (subst T (sym h) tt)
atan2_within (fin t m e) nan h k s = absurd (subst T (sym k) tt)
atan2_within (fin t m e) (inf u) h k s = absurd (subst T (sym k) tt)
atan2_within (fin t m e) (fin u n d) h k s =
    rw s
    (subst (λ (r : Float). QuadrantWithin (lt (fin false n d) (fin false m e)) (lt (fin u n d) f0) (m * up e * down d) (n * up d * down e) r) (turn t (half_plane_angle (fin false m e) (fin u n d))) (quadrant m e n d (rw (abs_is_zero (fin t m e), abs_is_zero (fin u n d)) s) (lt (fin u n d) f0) (lt (fin false n d) (fin false m e)) refl))
  where
    turn : (t : Bool) (r : Float) → r ≡ cond t (neg (cond t (neg r) r)) (cond t (neg r) r)
    turn true r = sym (neg-neg r)
    turn false r = refl
