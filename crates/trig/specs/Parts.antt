-- What the parts of sine, cosine and `atan2` hand to each other, for their own contracts: Sine.antt and Arctangent.antt need none of it.
use Rattle.std.specs.Prelude.{◌≡◌, ℕ, ◌+◌, ◌-◌, ◌≤◌, Bool, true, false, ◌&&◌, ℤ, pos, neg_ℤ, slice_index, Float, if◌then◌else◌}
use Rattle.std.specs.Float.Ieee.{eq}
use Rattle.scalar.specs.Arith.{f0}
use Rattle.scalar.specs.Scalar.{abs_of, is_finite}
use Rattle.series.specs.Tables.{sines}
use Rattle.trig.specs.Interpolation.{interpolated}

-- m, or where s is set -m
abbrev pub signed : Bool → ℕ → ℤ
signed s m = if s then neg_ℤ (pos m) else pos m

-- the sizes that the quarter table gives at the fraction f on the way up from entry i, and on the way down from entry 1,024 - i
pub record QuarterAt (i f rise fall : ℕ) : Type 0 where
  pub rising : pos rise ≡ interpolated 65536 (pos (slice_index sines i)) (pos (slice_index sines (i + 1))) f
  pub falling : pos fall ≡ interpolated 65536 (pos (slice_index sines (1024 - i))) (pos (slice_index sines (1023 - i))) f
  pub rise_fits : rise ≤ 16777216
  pub fall_fits : fall ≤ 16777216

-- h and w are sizes, finite and not both zero
pub record Point (h w : Float) : Type 0 where
  pub size_h : h ≡ abs_of h
  pub size_w : w ≡ abs_of w
  pub finite_h : is_finite h ≡ true
  pub finite_w : is_finite w ≡ true
  pub some : (eq h f0 && eq w f0) ≡ false
