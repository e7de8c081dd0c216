-- The corners of document 01: `clamp` keeps a NaN, `rem_euclid` of -0 is -0, EPSILON is 2^-23, and 1,024 is not over 1,024.
use mathlib.Core.Path.{◌≡◌, refl}
use mathlib.Core.Bool.{true, false}
use lib.IntN.{negsuc}
use lib.Ieee.{Float, nan, inf, fin, neg, rem, lt, eq, le, of_bits}
use Rattle.scalar.specs.Arith.{f32, epsilon, tau}
use Rattle.scalar.specs.Scalar.{min_of, max_of, clamp_of, rem_euclid_of, outside}

clamp_keeps_nan : (low high : Float) → clamp_of nan low high ≡ nan
unfolding clamp_of min_of max_of lt
clamp_keeps_nan low nan = refl
clamp_keeps_nan low (inf s) = refl
clamp_keeps_nan low (fin s m e) = refl

minus_zero_stays : rem_euclid_of (f32 0x8000_0000) tau ≡ f32 0x8000_0000
unfolding rem_euclid_of rem lt of_bits
minus_zero_stays = refl

epsilon_is : epsilon ≡ fin false 1 (negsuc 22)
unfolding of_bits
epsilon_is = refl

bound_passes : outside (f32 0x4480_0000) (neg (f32 0x4480_0000)) (f32 0x4480_0000) ≡ false
unfolding outside le lt eq neg of_bits
bound_passes = refl

next_is_over : outside (f32 0x4480_0001) (neg (f32 0x4480_0000)) (f32 0x4480_0000) ≡ true
unfolding outside le lt eq neg of_bits
next_is_over = refl
