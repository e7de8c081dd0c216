-- Sine and cosine lie within 2^-20 of the exact value, for every size up to 16.
use Rattle.std.proofs.Common.{◌≡◌, ℕ, zero, suc, ◌+◌, ◌*◌, ◌<◌, ◌≤◌, Bool, true, false, cond, T, ℤ, sym, refl, subst, arith, le-ltb, lt-ltb}
use lib.Ieee.{Float, nan, inf, fin, binary32, up, down, neg, lt, le, fits, of_bits}
use lib.Ieee.Bits.{is_true}
use lib.Ieee.Fits.{down_pos}
use Rattle.scalar.specs.Arith.{f0}
use Rattle.series.specs.Series.{sin_term, cos_term}
use Rattle.scalar.specs.Scalar.{abs_of}
use Rattle.trig.specs.Sine.{scaled_of, phase_of, step_of, fraction_of, table_sine, sin_small, cos_small, sin_in_reach, cos_in_reach, sin_of, cos_of, sixteen, sixty_fourth}
use Rattle.trig.specs.Accuracy.{SumsWithin, SinWithin, CosWithin}
use Rattle.scalar.proofs.Sizes.{neg-neg}
use Rattle.trig.proofs.SmallPowers.{small_size}
use Rattle.trig.proofs.SmallSineWithin as small
use Rattle.trig.proofs.TableSineWithin as table

-- the format holds a number exactly where it holds its size
size_fits : (s : Bool) (m : ℕ) (e : ℤ) → T (fits binary32 (fin s m e)) → T (fits binary32 (fin false m e))
unfolding fits
size_fits s zero e f = f
size_fits s (suc m) e f = f

-- a number that is not small and has a sign is below zero
sign_test : (s : Bool) (m : ℕ) (e : ℤ) → down e ≤ m * up e * 64 → lt (fin s m e) f0 ≡ s
unfolding lt of_bits
sign_test false m e h = le-ltb (m * up e * 1) (0 * 1 * down e) (omega arith)
sign_test true m e h = lt-ltb 0 (m * up e * 1 + 0 * 1 * down e) (go (m * up e) (down e) (down_pos e) h)
  where
    go : (a d : ℕ) → 0 < d → d ≤ a * 64 → 0 < a * 1 + 0 * 1 * d
    go a d p h = omega arith

module _ (s : Bool) (m : ℕ) (e : ℤ) (f : T (fits binary32 (fin s m e))) (h : T (le (fin false m e) sixteen)) where
  abbrev wave : Float
  wave = table_sine (step_of (phase_of (scaled_of (fin false m e)))) (fraction_of (phase_of (scaled_of (fin false m e))))

  turned : (b : Bool) → b ≡ s → SumsWithin sin_term (m * up e) (down e) wave → SumsWithin sin_term (m * up e) (down e) (cond s (neg (cond b (neg wave) wave)) (cond b (neg wave) wave))
  turned b k n = subst (λ (r : Float). SumsWithin sin_term (m * up e) (down e) r) (go s b k) n
    where
      go : (s b : Bool) → b ≡ s → wave ≡ cond s (neg (cond b (neg wave) wave)) (cond b (neg wave) wave)
      go true true k = sym (neg-neg wave)
      go true false k = absurd (subst T (sym k) tt)
      go false true k = absurd (subst T k tt)
      go false false k = refl

  sine_by : (b : Bool) → lt (fin false m e) sixty_fourth ≡ b → SumsWithin sin_term (m * up e) (down e) (cond s (neg (cond b (sin_small (fin s m e)) (cond (lt (fin s m e) f0) (neg wave) wave))) (cond b (sin_small (fin s m e)) (cond (lt (fin s m e) f0) (neg wave) wave)))
  sine_by true k = small.sine_near (m * up e) (down e) (small_size m e k) (fin s m e) s (refl, refl)
  sine_by false k = turned (lt (fin s m e) f0) (sign_test s m e (table.at_least m e k)) (table.sine_near m e (size_fits s m e f) h k)

  cosine_by : (b : Bool) → lt (fin false m e) sixty_fourth ≡ b → SumsWithin cos_term (m * up e) (down e) (cond b (cos_small (fin s m e)) (table_sine (step_of (phase_of (scaled_of (fin false m e))) + 1024) (fraction_of (phase_of (scaled_of (fin false m e))))))
  cosine_by true k = small.cosine_near (m * up e) (down e) (small_size m e k) (fin s m e) s (refl, refl)
  cosine_by false k = table.cosine_near m e (size_fits s m e f) h k

pub sin_within : (a : Float) → T (fits binary32 a) → T (le (abs_of a) sixteen) → SinWithin a (sin_of a)
unfolding sin_of sin_in_reach le lt of_bits
sin_within nan f h = absurd h
sin_within (inf s) f h = absurd h
sin_within (fin s m e) f h = rw (is_true (le (fin false m e) sixteen) h) (sine_by s m e f h (lt (fin false m e) sixty_fourth) refl)

pub cos_within : (a : Float) → T (fits binary32 a) → T (le (abs_of a) sixteen) → CosWithin a (cos_of a)
unfolding cos_of cos_in_reach le lt of_bits
cos_within nan f h = absurd h
cos_within (inf s) f h = absurd h
cos_within (fin s m e) f h = rw (is_true (le (fin false m e) sixteen) h) (cosine_by s m e f h (lt (fin false m e) sixty_fourth) refl)
