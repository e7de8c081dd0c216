-- What `interpolated` is on sizes: on whole numbers of either sign, at most 2^24, and within 65 units of the line between the two entries.
use Rattle.std.proofs.Common.{◌≡◌, ℕ, zero, suc, ◌+◌, ◌-◌, ◌*◌, ◌/◌, ◌<◌, ◌≤◌, Bool, true, false, cond, leb, ℤ, pos, negsuc, ◌+ℤ◌, ◌-ℤ◌, ◌*ℤ◌, neg_ℤ, sym, refl, ap, ◌∙◌, subst, le_trans, le_of_lt, mul_assoc, mul-le-mul_left, zero-mul, arith, lit<, leb-false, leb-true}
use native.Mathlib.Nat.{zero-div, mul-div-mul_right, div-le_of_le-mul}
use lib.IntN.{neg_ℤ-neg_ℤ, neg_ℤ-+ℤ, +ℤ_comm, +ℤ-neg_ℤ_cancel}
use Rattle.trig.specs.Interpolation.{toward_zero, interpolated}
use Rattle.trig.specs.Parts.{signed}

-- the size of the line's value
unfoldable pub line_size : ℕ → ℕ → ℕ → ℕ → ℕ
line_size one t u f = cond (leb t u) (t + (u - t) * f / one) (t - (t - u) * f / one) / 64

-- ---- signs
toward_neg : (z : ℤ) (d : ℕ) → toward_zero (neg_ℤ z) d ≡ neg_ℤ (toward_zero z d)
toward_neg (pos zero) d = rw (zero-div d)
toward_neg (pos (suc n)) d = refl
toward_neg (negsuc n) d = sym (neg_ℤ-neg_ℤ (pos (suc n / d)))

times_neg : (z : ℤ) (f : ℕ) → neg_ℤ z *ℤ pos f ≡ neg_ℤ (z *ℤ pos f)
times_neg (pos zero) f = rw (zero-mul f)
times_neg (pos (suc n)) f = refl
times_neg (negsuc n) f = sym (neg_ℤ-neg_ℤ (pos (suc n * f)))

minus_neg : (a b : ℤ) → neg_ℤ b -ℤ neg_ℤ a ≡ neg_ℤ (b -ℤ a)
minus_neg a b = sym (neg_ℤ-+ℤ b (neg_ℤ a))

pub line-neg : (one f : ℕ) (t u : ℤ) → interpolated one (neg_ℤ t) (neg_ℤ u) f ≡ neg_ℤ (interpolated one t u f)
unfolding interpolated
line-neg one f t u =
    rw (minus_neg t u, times_neg (u -ℤ t) f, toward_neg ((u -ℤ t) *ℤ pos f) one, ← neg_ℤ-+ℤ t (toward_zero ((u -ℤ t) *ℤ pos f) one))
    (toward_neg (t +ℤ toward_zero ((u -ℤ t) *ℤ pos f) one) 64)

-- ---- above zero
rise : (t d : ℕ) → pos (d + t) -ℤ pos t ≡ pos d
rise t d = +ℤ-neg_ℤ_cancel (pos d) (pos t)

fall : (u d : ℕ) → pos u -ℤ pos (d + u) ≡ neg_ℤ (pos d)
fall u d = +ℤ_comm (pos u) (neg_ℤ (pos (d + u))) ∙ ap (λ (z : ℤ). neg_ℤ (pos (d + u)) +ℤ z) (sym (neg_ℤ-neg_ℤ (pos u))) ∙ minus_neg (pos u) (pos (d + u)) ∙ ap neg_ℤ (rise u d)

less : (a x : ℕ) → x ≤ a → pos a +ℤ neg_ℤ (pos x) ≡ pos (a - x)
less a x h = subst (λ (y : ℕ). pos y -ℤ pos x ≡ pos (a - x)) (omega arith) (rise x (a - x))

pub part : (one d f : ℕ) → 0 < one → f ≤ one → d * f / one ≤ d
part one d f p h = div-le_of_le-mul one (le_trans (mul-le-mul_left d h) (omega arith))

up : (one t d f : ℕ) → interpolated one (pos t) (pos (d + t)) f ≡ pos ((t + d * f / one) / 64)
unfolding interpolated
up one t d f = rw (rise t d)

down : (one u d f : ℕ) → 0 < one → f ≤ one → interpolated one (pos (d + u)) (pos u) f ≡ pos ((d + u - d * f / one) / 64)
unfolding interpolated
down one u d f p h = rw (fall u d, times_neg (pos d) f, toward_neg (pos (d * f)) one, less (d + u) (d * f / one) (wide (d * f / one) (part one d f p h)))
  where
    wide : (x : ℕ) → x ≤ d → x ≤ d + u
    wide x h = omega arith

pub line_size_lem : (one t u f : ℕ) → 0 < one → f ≤ one → interpolated one (pos t) (pos u) f ≡ pos (line_size one t u f)
unfolding line_size
line_size_lem one t u f p h = go (leb t u) refl
  where
    go : (b : Bool) → leb t u ≡ b → interpolated one (pos t) (pos u) f ≡ pos (cond b (t + (u - t) * f / one) (t - (t - u) * f / one) / 64)
    go true e = let l : t ≤ u = leb-true t u e in subst (λ (v : ℕ). interpolated one (pos t) (pos v) f ≡ pos ((t + (u - t) * f / one) / 64)) (omega arith) (up one t (u - t) f)
    go false e =
        let l : u < t = leb-false t u e in
        let s : t - u + u ≡ t = omega arith in
        subst (λ (v : ℕ). interpolated one (pos v) (pos u) f ≡ pos ((v - (t - u) * f / one) / 64)) s (down one u (t - u) f p h)

pub line_signed : (b : Bool) (one t u f : ℕ) → 0 < one → f ≤ one → interpolated one (signed b t) (signed b u) f ≡ signed b (line_size one t u f)
line_signed false one t u f p h = line_size_lem one t u f p h
line_signed true one t u f p h = line-neg one f (pos t) (pos u) ∙ ap neg_ℤ (line_size_lem one t u f p h)

-- a fraction over 2^14 as one over 2^16
pub finer : (t u f : ℕ) → line_size 16384 t u f ≡ line_size 65536 t u (f * 4)
unfolding line_size
finer t u f = rw (four (u - t), four (t - u))
  where
    four : (d : ℕ) → d * f / 16384 ≡ d * (f * 4) / 65536
    four d = sym (ap (λ (x : ℕ). x / 65536) (sym (mul_assoc d f 4)) ∙ mul-div-mul_right (d * f) 16384 (lit< tt))

-- it is at most 2^24 where the entries are at most 2^30
pub line_small : (t u f : ℕ) → t ≤ 1073741824 → u ≤ 1073741824 → f < 65536 → line_size 65536 t u f ≤ 16777216
unfolding line_size
line_small t u f h k l = go (leb t u) refl
  where
    go : (b : Bool) → leb t u ≡ b → cond b (t + (u - t) * f / 65536) (t - (t - u) * f / 65536) / 64 ≤ 16777216
    go true e = let m : t ≤ u = leb-true t u e in omega (arith, part 65536 (u - t) f (lit< tt) (le_of_lt l))
    go false e = omega arith

-- ---- the two truncations stay within 65 units
pub record Off (t u f m : ℕ) : Type 0 where
  pub high : (65536 - f) * t + f * u ≤ 65536 * (64 * m) + 65536 * 65
  pub low : 65536 * (64 * m) ≤ (65536 - f) * t + f * u + 65536 * 65

-- v is the line, off by at most 1, and m is v / 64
cut : (t u f v L : ℕ) → L ≤ 65536 * v + 65536 → 65536 * v ≤ L + 65536 → L ≡ (65536 - f) * t + f * u → Off t u f (v / 64)
cut t u f v L h k e = record { high = subst (λ (z : ℕ). z ≤ 65536 * (64 * (v / 64)) + 65536 * 65) e (omega arith); low = subst (λ (z : ℕ). 65536 * (64 * (v / 64)) ≤ z + 65536 * 65) e (omega arith) }

rising : (t d f g : ℕ) → f + g ≡ 65536 → 65536 * t + d * f ≡ g * t + f * (d + t)
rising t d f g e = omega (arith, ap (λ (z : ℕ). z * t) e)

falling : (u d f g : ℕ) → f + g ≡ 65536 → 65536 * (d + u) ≡ g * (d + u) + f * u + d * f
falling u d f g e = omega (arith, ap (λ (z : ℕ). z * (d + u)) e)

off_up : (t d f : ℕ) → f < 65536 → Off t (d + t) f ((t + d * f / 65536) / 64)
off_up t d f h = cut t (d + t) f (t + d * f / 65536) (65536 * t + d * f) (omega arith) (omega arith) (rising t d f (65536 - f) (omega arith))

off_down : (u d f : ℕ) → f < 65536 → Off (d + u) u f ((d + u - d * f / 65536) / 64)
off_down u d f h = go (d * f) ((65536 - f) * (d + u) + f * u) refl (falling u d f (65536 - f) (omega arith))
  where
    go : (x L : ℕ) → L ≡ (65536 - f) * (d + u) + f * u → 65536 * (d + u) ≡ L + x → Off (d + u) u f ((d + u - x / 65536) / 64)
    go x L e s = cut (d + u) u f (d + u - x / 65536) L (omega arith) (omega arith) e

pub off : (t u f : ℕ) → f < 65536 → Off t u f (line_size 65536 t u f)
unfolding line_size
off t u f h = go (leb t u) refl
  where
    go : (b : Bool) → leb t u ≡ b → Off t u f (cond b (t + (u - t) * f / 65536) (t - (t - u) * f / 65536) / 64)
    go true e =
        let s : u - t + t ≡ u = omega (arith, leb-true t u e) in
        subst (λ (z : ℕ). Off t z f ((t + (u - t) * f / 65536) / 64)) s (off_up t (u - t) f h)
    go false e =
        let s : t - u + u ≡ t = omega (arith, leb-false t u e) in
        subst (λ (z : ℕ). Off z u f ((z - (t - u) * f / 65536) / 64)) s (off_down u (t - u) f h)
