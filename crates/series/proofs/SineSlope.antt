-- Both sums are at most 5/4 in size up to 16: at most 1 + 2^-20 at each eighth, by a test, and from there on for an eighth by the law of `Oscillation`. So they are functions with a slope, as `Chord` asks.
use mathlib.Core.Path.{◌≡◌, sym, subst}
use mathlib.Core.Bool.{Bool, true, ◌&&◌}
use Prim.Native.Nat.{ℕ, zero, suc, ◌+◌, ◌*◌, ◌^◌, ◌/◌, ◌%◌, ◌≤◌, ◌<◌}
use mathlib.Core.Logic.{inl, inr}
use native.Mathlib.Nat.{eq-or-lt_of_le, le_of_suc-le-suc, le_trans, le_refl, mul-le-mul_right, le_of_mul-le-mul_left, div-add-mod', mod-lt, div-lt_iff_lt-mul, add-le-add, le_of_lt, lt_of_le_of_lt}
use native.Mathlib.Omega.{arith}
use lib.Dec.{T, leb, leb→le, lit≤, lit<}
use lib.Ieee.Fits.{and_l, and_r}
use Rattle.series.proofs.Numbers.{swap_sums}
use Rattle.series.proofs.Oscillation.{Next, Within, stays}
use Rattle.series.specs.Interpolation.{Sloped}
use Rattle.series.proofs.SinePolynomials.{L0, L1, L2, L3, whole, slack, grid, reach, table_step, a, b, c, d, osc}

-- a test at each number below n
abbrev upto : (ℕ → Bool) → ℕ → Bool
upto f zero = true
upto f (suc n) = f n && upto f n

upto_sound : (f : ℕ → Bool) (n : ℕ) → T (upto f n) → (i : ℕ) → i < n → T (f i)
upto_sound f zero t i h = absurd (omega arith)
upto_sound f (suc n) t i h =
    elim (eq-or-lt_of_le (le_of_suc-le-suc h)) [
      | inl e ↦ subst (λ (m : ℕ). T (f m)) (sym e) (and_l (f n) (upto f n) t)
      | inr l ↦ upto_sound f n (and_r (f n) (upto f n) t) i l
    ]

unfoldable pub most : ℕ
most = whole + whole / 4

unfoldable edge : ℕ
edge = whole + whole / 2 ^ 20

-- what a slope changes by in a grid step
unfoldable pub bend : ℕ
bend = (most + 2 * slack) / grid + 1

abbrev eighth : ℕ → Bool
eighth i =
    let x = i * 2 ^ 38 in
    let A = a x in
    let B = b x in
    let C = c x in
    let E = d x in
    leb B (E + edge) && (leb E (B + edge) && (leb A (C + edge) && leb C (A + edge)))

eighths : T (upto eighth 129)
unfolding L0 L1 L2 L3 whole edge
eighths = tt

at_eighth : (i : ℕ) → i < 129 → Within a b c d edge (i * 2 ^ 38)
at_eighth i h =
    let x = i * 2 ^ 38 in
    let t = upto_sound eighth 129 eighths i h in
    let t1 = leb (b x) (d x + edge) in
    let t2 = leb (d x) (b x + edge) in
    let t3 = leb (a x) (c x + edge) in
    let t4 = leb (c x) (a x + edge) in
    let r = and_r t1 (t2 && (t3 && t4)) t in
    let r' = and_r t2 (t3 && t4) r in
    record { bd = leb→le (b x) (d x + edge) (and_l t1 (t2 && (t3 && t4)) t); db = leb→le (d x) (b x + edge) (and_l t2 (t3 && t4) r); ac = leb→le (a x) (c x + edge) (and_l t3 t4 r'); ca = leb→le (c x) (a x + edge) (and_r t3 t4 r') }

room : most + 2 * slack ≤ grid * bend
unfolding L0 whole slack most bend
room = lit≤ tt

spread : edge + 2 ^ 38 * bend ≤ most
unfolding L0 whole slack most bend edge
spread = lit≤ tt

widen : (w v x : ℕ) → w ≤ v → Within a b c d w x → Within a b c d v x
widen w v x h e = record { bd = le_trans e.bd (more (d x)); db = le_trans e.db (more (b x)); ac = le_trans e.ac (more (c x)); ca = le_trans e.ca (more (a x)) }
  where
    more : (y : ℕ) → y + w ≤ y + v
    more y = add-le-add (le_refl y) h

pub bounded : (x : ℕ) → x ≤ reach → Within a b c d most x
bounded x h =
    let i = x / 2 ^ 38 in
    let j = x % 2 ^ 38 in
    let j< : j < 2 ^ 38 = mod-lt x (lit< tt) in
    let i< : i < 129 = (div-lt_iff_lt-mul (lit< tt)).1 (lt_of_le_of_lt h (lit< tt)) in
    let split : i * 2 ^ 38 + j ≡ x = div-add-mod' x (2 ^ 38) in
    let fits : edge + j * bend ≤ most = le_trans (add-le-add (le_refl edge) (mul-le-mul_right bend (le_of_lt j<))) spread in
    subst (λ (y : ℕ). Within a b c d most y) split
    (widen (edge + j * bend) most (i * 2 ^ 38 + j) fits
    (stays grid slack reach a b c d osc edge bend most (lit< tt) room (i * 2 ^ 38) j (subst (λ (y : ℕ). y ≤ reach) (sym split) h) fits (at_eighth i i<)))

-- ---- a step of the slope f - g, whose own slope is h - i, at most `most` in size
turn : (D M k q f f' g g' h i : ℕ) → 0 < D → q + 2 * M ≤ D * k → D * f' ≤ D * f + h + M → D * g + i ≤ D * g' + M → h ≤ i + q → f' + g ≤ f + g' + k
turn D M k q f f' g g' h i pos r u l s = le_of_mul-le-mul_left go pos
  where
    go : D * (f' + g) ≤ D * (f + g' + k)
    go = omega arith

-- f - g with the slope p - n, whose own slope is h - i
sloped : (f g p n h i : ℕ → ℕ) → Next grid slack reach f p → Next grid slack reach g n → Next grid slack reach p h → Next grid slack reach n i → ((x : ℕ) → x < reach → h x ≤ i x + most) → ((x : ℕ) → x < reach → i x ≤ h x + most) →
    Sloped (λ x. grid * f x) (λ x. grid * g x) p n (2 * slack) bend reach
sloped f g p n h i nf ng np nn l u = record {
  up = λ x k. up grid slack (f x) (f (suc x)) (g x) (g (suc x)) (p x) (n x) (nf.most x k) (ng.least x k);
  down = λ x k. down grid slack (f x) (f (suc x)) (g x) (g (suc x)) (p x) (n x) (nf.least x k) (ng.most x k);
  steeper = λ x k. turn grid slack bend most (p x) (p (suc x)) (n x) (n (suc x)) (h x) (i x) (lit< tt) room (np.most x k) (nn.least x k) (l x k);
  flatter = λ x k. swap_sums (n (suc x)) (p x) (n x) (p (suc x)) bend (turn grid slack bend most (n x) (n (suc x)) (p x) (p (suc x)) (i x) (h x) (lit< tt) room (nn.most x k) (np.least x k) (u x k));
}
  where
    up : (D M b b' d d' a c : ℕ) → D * b' ≤ D * b + a + M → D * d + c ≤ D * d' + M → D * b' + D * d + c ≤ D * b + D * d' + a + 2 * M
    up D M b b' d d' a c h k = omega arith

    down : (D M b b' d d' a c : ℕ) → D * b + a ≤ D * b' + M → D * d' ≤ D * d + c + M → D * b + D * d' + a ≤ D * b' + D * d + c + 2 * M
    down D M b b' d d' a c h k = omega arith

pub sine_sloped : Sloped (λ x. grid * b x) (λ x. grid * d x) a c (2 * slack) bend reach
sine_sloped = sloped b d a c d b osc.nb osc.nd osc.na osc.nc (λ x h. (bounded x (le_of_lt h)).db) (λ x h. (bounded x (le_of_lt h)).bd)

pub cosine_sloped : Sloped (λ x. grid * a x) (λ x. grid * c x) d b (2 * slack) bend reach
cosine_sloped = sloped a c d b c a osc.na osc.nc osc.nd osc.nb (λ x h. (bounded x (le_of_lt h)).ca) (λ x h. (bounded x (le_of_lt h)).ac)

-- closed facts for `Interpolation`: the sag is at most 400 units of 2^-30, and from node to node the functions climb by at most 65536 · 32 units
pub sags : 2 ^ 30 * (table_step * (bend * suc table_step + 4 * (2 * slack))) ≤ 8 * (400 * (grid * whole))
unfolding L0 whole slack most bend
sags = lit≤ tt

pub steps : 2 ^ 30 * (table_step * (most + 2 * slack)) + 2 * 4 * (grid * whole) ≤ 65536 * 32 * (grid * whole)
unfolding L0 whole slack most bend
steps = lit≤ tt

pub floors : 2 ^ 30 * (2 ^ 17 * (most + 2 * slack)) ≤ 81 * (grid * whole)
unfolding L0 whole slack most bend
floors = lit≤ tt

pub whole_pos : 0 < grid * whole
unfolding L0 whole
whole_pos = lit< tt
