-- The smaller of two sizes over the larger is a size of at most 1.
use Rattle.std.proofs.Common.{◌≡◌, ℕ, zero, suc, ◌*◌, ◌<◌, ◌≤◌, true, false, ◌&&◌, T, ℤ, sym, refl, ap, ◌∙◌, subst, le_of_lt, mul-pos, arith, lit<, ltb-false, ltb-true, ne_eqb}
use lib.Ieee.{Float, fin, binary32, up, down, round, div, lt, le, eq, of_bits}
use lib.Ieee.Fits.{down_pos, up_pos}
use lib.Ieee.Order.{round_mono}
use Rattle.scalar.specs.Scalar.{abs_of}
use Rattle.scalar.proofs.Sizes.{Fraction, finite_size, abs_round}
use Rattle.scalar.specs.Arith.{f0, f1}
use Rattle.trig.specs.Parts.{Point}

-- what `atan` asks
abbrev AtMostOne : Float → Type 0
AtMostOne t = T (le t f1) × (t ≡ abs_of t)

round_one : round binary32 false 1 1 ≡ f1
unfolding round of_bits
round_one = refl

pub div_is : (m : ℕ) (e : ℤ) (n : ℕ) (d : ℤ) → 0 < n → div binary32 (fin false m e) (fin false n d) ≡ round binary32 false (m * up e * down d) (n * up d * down e)
unfolding div
div_is m e n d p = rw (ne_eqb n 0 (λ h. omega arith))

pub at_most_one : (a b : ℕ) → 0 < b → a ≤ b → T (le (round binary32 false a b) f1)
at_most_one a b p h = subst (λ (x : Float). T (le (round binary32 false a b) x)) round_one (round_mono binary32 a b 1 1 p (lit< tt) (omega (arith, h)))

divided : (m : ℕ) (e : ℤ) (n : ℕ) (d : ℤ) → 0 < n → m * up e * down d ≤ n * up d * down e → AtMostOne (div binary32 (fin false m e) (fin false n d))
divided m e n d p h =
    let a = m * up e * down d in
    let b = n * up d * down e in
    subst AtMostOne (sym (div_is m e n d p)) (
      at_most_one a b (mul-pos (mul-pos p (up_pos d)) (down_pos e)) h,
      abs_round binary32 a b,
    )

-- a is above zero where it is not a multiple of zero
some : (n u d : ℕ) → 0 < n * u * d → 0 < n
some zero u d h = absurd (omega arith)
some (suc n) u d h = omega arith

pub above : (m : ℕ) (e : ℤ) (n : ℕ) (d : ℤ) → lt (fin false n d) (fin false m e) ≡ true → (0 < m) × (n * up d * down e ≤ m * up e * down d)
unfolding lt
above m e n d h = let l = ltb-true (n * up d * down e) (m * up e * down d) h in (some m (up e) (down d) (omega arith), le_of_lt l)

zeros : (e d : ℤ) → T (eq (fin false 0 e) f0 && eq (fin false 0 d) f0)
unfolding eq of_bits
zeros e d = rw (zero (up e) 1, zero 1 (down e), zero (up d) 1, zero 1 (down d)) tt
  where
    zero : (u d : ℕ) → 0 * u * d ≡ 0
    zero u d = omega arith

-- h is not above w, and one of them is not zero
pub beside : (m : ℕ) (e : ℤ) (n : ℕ) (d : ℤ) → lt (fin false n d) (fin false m e) ≡ false → (eq (fin false m e) f0 && eq (fin false n d) f0) ≡ false → (0 < n) × (m * up e * down d ≤ n * up d * down e)
unfolding lt
beside m e (suc n) d h k = (omega arith, ltb-false (suc n * up d * down e) (m * up e * down d) h)
beside m e zero d h k = absurd (no m (ltb-false (0 * up d * down e) (m * up e * down d) h) k)
  where
    flat : (m : ℕ) (u v w x : ℕ) → 0 < u → 0 < v → m * u * v ≤ 0 * w * x → m ≡ 0
    flat zero u v w x p q h = refl
    flat (suc m) u v w x p q h = absurd (omega (arith, mul-pos (mul-pos {m = suc m} (omega arith) p) q))

    no : (m : ℕ) → m * up e * down d ≤ 0 * up d * down e → (eq (fin false m e) f0 && eq (fin false 0 d) f0) ≡ false → ⊥
    no m l k = both m (flat m (up e) (down d) (up d) (down e) (up_pos e) (down_pos d) l) k
      where
        both : (m : ℕ) → m ≡ 0 → (eq (fin false m e) f0 && eq (fin false 0 d) f0) ≡ false → ⊥
        both m z k = subst T (sym (ap (λ (x : ℕ). eq (fin false x e) f0 && eq (fin false 0 d) f0) z) ∙ k) (zeros e d)

-- the steep case and the other
pub over_steep : (h w : Float) → Point h w → lt w h ≡ true → AtMostOne (div binary32 w h)
over_steep h w p l =
    let y = finite_size h p.size_h p.finite_h in
    let x = finite_size w p.size_w p.finite_w in
    let r = above y.m y.e x.m x.e (sym (ap (λ (v : Float). lt w v) y.is ∙ ap (λ (v : Float). lt v (fin false y.m y.e)) x.is) ∙ l) in
    subst AtMostOne (sym (ap (λ (v : Float). div binary32 w v) y.is ∙ ap (λ (v : Float). div binary32 v (fin false y.m y.e)) x.is)) (divided x.m x.e y.m y.e r.0 r.1)

pub over_flat : (h w : Float) → Point h w → lt w h ≡ false → AtMostOne (div binary32 h w)
over_flat h w p l = go (finite_size h p.size_h p.finite_h) (finite_size w p.size_w p.finite_w)
  where
    go : Fraction h → Fraction w → AtMostOne (div binary32 h w)
    go y x =
        let a = fin false y.m y.e in
        let b = fin false x.m x.e in
        let r = beside y.m y.e x.m x.e (sym (ap (λ (v : Float). lt w v) y.is ∙ ap (λ (v : Float). lt v a) x.is) ∙ l) (sym (ap (λ (v : Float). eq v f0 && eq w f0) y.is ∙ ap (λ (v : Float). eq a f0 && eq v f0) x.is) ∙ p.some) in
        subst AtMostOne (sym (ap (λ (v : Float). div binary32 v w) y.is ∙ ap (λ (v : Float). div binary32 a v) x.is)) (divided y.m y.e x.m x.e r.0 r.1)
