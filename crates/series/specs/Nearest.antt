-- What it says that a table's number is nearest to its exact value (document 01, 'Arithmetic beneath'): less 1/2 it is at most a lower end of the series' bracket, and with 1/2 more at least an upper end. Definitions only.
use Rattle.std.specs.Prelude.{ℕ, ◌+◌, ◌*◌, ◌^◌, ◌<◌, ◌≡◌, Bool, ◌&&◌, T, leb, length, get_or}
use Rattle.series.specs.Tables.{sines, arcs}
use Rattle.series.specs.Series.{denominator, sin_term, added, taken, euler_denominator, euler_term, euler_sum}

-- π lies in [pi_low, pi_high] / 2^60
abbrev pub pi_low : ℕ
pi_low = 3622009729038561420

abbrev pub pi_high : ℕ
pi_high = 3622009729038561422

-- by four times Euler's series at 1, after 60 terms
unfoldable pub pi_bracket : Bool
pi_bracket = leb (pi_low * euler_denominator 60 1 1) (2 ^ 62 * euler_sum 60 1 1) && leb (2 ^ 62 * (euler_sum 60 1 1 + euler_term 59 1 1)) (pi_high * euler_denominator 60 1 1)

-- t is nearest to 2^30·sin(i·π/2048): twelve terms at the least angle, thirteen at the greatest
unfoldable pub near_sin : ℕ → ℕ → Bool
near_sin i t =
    let q = 2 ^ 71 in
    let a = i * pi_low in
    let b = i * pi_high in
    let d = denominator 12 q in
    leb (2 * t * d + 2 ^ 31 * taken sin_term 12 a q) (2 ^ 31 * added sin_term 12 a q + d) && leb (2 ^ 31 * added sin_term 13 b q) ((2 * t + 1) * denominator 13 q + 2 ^ 31 * taken sin_term 13 b q)

-- t is nearest to 2^30·atan(i/1024): forty terms
unfoldable pub near_atan : ℕ → ℕ → Bool
near_atan i t =
    let d = euler_denominator 40 i 1024 in
    let n = 2 ^ 31 * euler_sum 40 i 1024 in
    leb (2 * t * d) (n + d) && leb (n + 2 ^ 31 * euler_term 39 i 1024) ((2 * t + 1) * d)

pub record Nearest : Type 0 where
  pub pi : T pi_bracket
  pub sine_length : length sines ≡ 1025
  pub sine : (i : ℕ) → i < 1025 → T (near_sin i (get_or sines i 0))
  pub arctangent_length : length arcs ≡ 1025
  pub arctangent : (i : ℕ) → i < 1025 → T (near_atan i (get_or arcs i 0))
