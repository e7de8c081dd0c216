-- The alternating sums as polynomials; of 32 terms on the grid, those of `SinePolynomials`.
use mathlib.Core.Path.{◌≡◌, refl, sym, ap, ◌∙◌}
use mathlib.Core.Bool.{Bool, true, false, not}
use mathlib.Core.List.{List, [], ◌∷◌, ◌++◌}
use Prim.Native.Nat.{ℕ, zero, suc, ◌+◌, ◌*◌, ◌^◌}
use native.Mathlib.Nat.{pow-suc, mul_comm}
use native.Mathlib.Omega.{arith}
use lib.ListN.{length, length-append}
use Rattle.series.specs.Series.{step, denominator, sin_term, cos_term, when, even, total, added, taken}
use Rattle.series.proofs.Polynomials.{eval, pad}
use Rattle.series.proofs.SinePolynomials.{L0, L1, L2, L3, whole, grid, a, b, c, d, eval_append}

-- every coefficient times k
abbrev times : ℕ → List ℕ → List ℕ
times k [] = []
times k (c ∷ cs) = k * c ∷ times k cs

times_is : (k : ℕ) (cs : List ℕ) (x : ℕ) → eval (times k cs) x ≡ k * eval cs x
times_is k [] x = omega arith
times_is k (c ∷ cs) x = rw (times_is k cs x) (go (eval cs x))
  where
    go : (e : ℕ) → k * c + x * (k * e) ≡ k * (c + x * e)
    go e = omega arith

times_length : (k : ℕ) (cs : List ℕ) → length (times k cs) ≡ length cs
times_length k [] = refl
times_length k (c ∷ cs) = ap suc (times_length k cs)

-- each term has two powers to itself: `place` puts its weight at one of them
abbrev coefs : (ℕ → List ℕ) → (ℕ → ℕ → ℕ) → (Bool → Bool) → ℕ → ℕ → List ℕ
coefs place weight s zero q = []
coefs place weight s (suc n) q = times (step n q) (coefs place weight s n q) ++ place (when (s (even n)) (weight n q))

module _ (place : ℕ → List ℕ) (weight : ℕ → ℕ → ℕ) (term : ℕ → ℕ → ℕ → ℕ) (two : (v : ℕ) → length (place v) ≡ 2)
    (value : (s : Bool) (n x q : ℕ) → x ^ (2 * n) * eval (place (when s (weight n q))) x ≡ when s (term n x q)) (s : Bool → Bool) where
  coefs_length : (n q : ℕ) → length (coefs place weight s n q) ≡ 2 * n
  coefs_length zero q = refl
  coefs_length (suc n) q =
      length-append (times (step n q) (coefs place weight s n q)) (place (when (s (even n)) (weight n q)))
      ∙ go (length (times (step n q) (coefs place weight s n q))) (length (place (when (s (even n)) (weight n q)))) (times_length (step n q) (coefs place weight s n q) ∙ coefs_length n q) (two (when (s (even n)) (weight n q)))
    where
      go : (l r : ℕ) → l ≡ 2 * n → r ≡ 2 → l + r ≡ 2 * suc n
      go l r e f = omega arith

  coefs_is : (n x q : ℕ) → eval (coefs place weight s n q) x ≡ total term s n x q
  coefs_is zero x q = refl
  coefs_is (suc n) x q =
      let l = coefs place weight s n q in
      let v = when (s (even n)) (weight n q) in
      eval_append (times (step n q) l) (place v) x
      ∙ go (eval (times (step n q) l) x) (length (times (step n q) l)) (eval (place v) x) (step n q) (total term s n x q) (times_is (step n q) l x ∙ ap (λ (e : ℕ). step n q * e) (coefs_is n x q)) (times_length (step n q) l ∙ coefs_length n q) (value (s (even n)) n x q)
    where
      go : (e l v k t : ℕ) → e ≡ k * t → l ≡ 2 * n → x ^ (2 * n) * v ≡ when (s (even n)) (term n x q) → e + x ^ l * v ≡ t * k + when (s (even n)) (term n x q)
      go e l v k t h i j = rw (h, i, j, mul_comm k t)

when_mul : (s : Bool) (p w : ℕ) → p * when s w ≡ when s (p * w)
when_mul true p w = refl
when_mul false p w = omega arith

-- ---- the sine has odd powers, the cosine even ones
abbrev odd_place : ℕ → List ℕ
odd_place v = 0 ∷ v ∷ []

abbrev even_place : ℕ → List ℕ
even_place v = v ∷ 0 ∷ []

abbrev odd_weight : ℕ → ℕ → ℕ
odd_weight n q = q * (2 * n + 2)

odd_value : (s : Bool) (n x q : ℕ) → x ^ (2 * n) * (0 + x * (when s (odd_weight n q) + x * 0)) ≡ when s (sin_term n x q)
odd_value s n x q = go (x ^ (2 * n)) (when s (odd_weight n q)) ∙ ap (λ (y : ℕ). y * when s (odd_weight n q)) (sym (pow-suc x (2 * n)) ∙ ap (λ (k : ℕ). x ^ k) (same n)) ∙ when_mul s (x ^ (2 * n + 1)) (odd_weight n q)
  where
    go : (y w : ℕ) → y * (0 + x * (w + x * 0)) ≡ y * x * w
    go y w = omega arith

    same : (n : ℕ) → suc (2 * n) ≡ 2 * n + 1
    same n = omega arith

even_value : (s : Bool) (n x q : ℕ) → x ^ (2 * n) * (when s (step n q) + x * (0 + x * 0)) ≡ when s (cos_term n x q)
even_value s n x q = go (x ^ (2 * n)) (when s (step n q)) ∙ when_mul s (x ^ (2 * n)) (step n q)
  where
    go : (y w : ℕ) → y * (w + x * (0 + x * 0)) ≡ y * w
    go y w = omega arith

-- zeros at the end of a polynomial
trail : (xs zs : List ℕ) (x : ℕ) → eval zs x ≡ 0 → eval (xs ++ zs) x ≡ eval xs x
trail xs zs x h = eval_append xs zs x ∙ go (eval xs x) (x ^ length xs) (eval zs x) h
  where
    go : (a p z : ℕ) → z ≡ 0 → a + p * z ≡ a
    go a p z h = rw h (omega arith)

-- ---- the four sums
sine_added : coefs odd_place odd_weight (λ t. t) 32 grid ++ (0 ∷ []) ≡ times (64 * grid) (0 ∷ pad L1)
unfolding L1
sine_added = refl

sine_taken : coefs odd_place odd_weight not 32 grid ++ (0 ∷ 0 ∷ 0 ∷ []) ≡ times (64 * grid) (0 ∷ 0 ∷ 0 ∷ pad L3)
unfolding L3
sine_taken = refl

cosine_added : coefs even_place step (λ t. t) 32 grid ≡ times (64 * grid) (pad L0)
unfolding L0
cosine_added = refl

cosine_taken : coefs even_place step not 32 grid ++ (0 ∷ 0 ∷ []) ≡ times (64 * grid) (0 ∷ 0 ∷ pad L2)
unfolding L2
cosine_taken = refl

pub same_den : denominator 32 grid ≡ 64 * grid * whole
unfolding L0 whole
same_den = refl

pub sine_up : (x : ℕ) → added sin_term 32 x grid ≡ 64 * grid * b x
sine_up x = sym (coefs_is odd_place odd_weight sin_term (λ v. refl) odd_value (λ t. t) 32 x grid) ∙ sym (trail (coefs odd_place odd_weight (λ t. t) 32 grid) (0 ∷ []) x (omega arith)) ∙ ap (λ (l : List ℕ). eval l x) sine_added ∙ times_is (64 * grid) (0 ∷ pad L1) x

pub sine_down : (x : ℕ) → taken sin_term 32 x grid ≡ 64 * grid * d x
sine_down x = sym (coefs_is odd_place odd_weight sin_term (λ v. refl) odd_value not 32 x grid) ∙ sym (trail (coefs odd_place odd_weight not 32 grid) (0 ∷ 0 ∷ 0 ∷ []) x (omega arith)) ∙ ap (λ (l : List ℕ). eval l x) sine_taken ∙ times_is (64 * grid) (0 ∷ 0 ∷ 0 ∷ pad L3) x

pub cosine_up : (x : ℕ) → added cos_term 32 x grid ≡ 64 * grid * a x
cosine_up x = sym (coefs_is even_place step cos_term (λ v. refl) even_value (λ t. t) 32 x grid) ∙ ap (λ (l : List ℕ). eval l x) cosine_added ∙ times_is (64 * grid) (pad L0) x

pub cosine_down : (x : ℕ) → taken cos_term 32 x grid ≡ 64 * grid * c x
cosine_down x = sym (coefs_is even_place step cos_term (λ v. refl) even_value not 32 x grid) ∙ sym (trail (coefs even_place step not 32 grid) (0 ∷ 0 ∷ []) x (omega arith)) ∙ ap (λ (l : List ℕ). eval l x) cosine_taken ∙ times_is (64 * grid) (0 ∷ 0 ∷ pad L2) x
