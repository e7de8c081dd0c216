-- The sine's and cosine's sums of 32 terms on the grid of 2^-41, as four polynomials of natural numbers: over 2^(41·63) 63!, the sine of x / 2^41 is b x - d x and its cosine a x - c x.
use mathlib.Core.Path.{◌≡◌, refl, sym, ap, ◌∙◌, subst}
use mathlib.Core.List.{List, [], ◌∷◌, ◌++◌}
use Prim.Native.Nat.{ℕ, zero, suc, ◌+◌, ◌*◌, ◌^◌, ◌/◌, ◌≤◌, ◌<◌}
use native.Mathlib.Nat.{mul-le-mul_left, le_trans, pow-zero, pow-succ', pow-le-pow_left, le_of_lt}
use native.Mathlib.Omega.{arith}
use lib.Dec.{lit≤}
use lib.ListN.{length}
use Rattle.series.proofs.Polynomials.{eval, der, pad, slopes, der_mono, step_low, step_high, der_is}
use Rattle.series.proofs.Oscillation.{Next, Osc}

abbrev pub grid : ℕ
grid = 2 ^ 41

-- a table step, 3373259426 / 2^30 / 2048, and the first node past 16
abbrev pub table_step : ℕ
table_step = 3373259426

abbrev pub reach : ℕ
reach = 10431 * table_step

-- the weights 2^(41 (63 - j)) 63! / j! of the powers j = r, r + 4, .., from the last down
abbrev ladder : ℕ → ℕ → ℕ → List ℕ → List ℕ
ladder zero r w acc = w ∷ acc
ladder (suc i) r w acc = ladder i r (w * ((4 * i + r + 1) * (4 * i + r + 2) * (4 * i + r + 3) * (4 * i + r + 4) * grid ^ 4)) (w ∷ acc)

unfoldable pub L0 : List ℕ
L0 = ladder 15 0 (63 * 62 * 61 * grid ^ 3) []

unfoldable pub L1 : List ℕ
L1 = ladder 15 1 (63 * 62 * grid ^ 2) []

unfoldable pub L2 : List ℕ
L2 = ladder 15 2 (63 * grid) []

unfoldable pub L3 : List ℕ
L3 = ladder 15 3 1 []

-- L3 without its last weight, 1
unfoldable L3' : List ℕ
L3' = ladder 14 3 (60 * 61 * 62 * 63 * grid ^ 4) []

abbrev head : List ℕ → ℕ
head [] = 0
head (x ∷ xs) = x

abbrev drop1 : List ℕ → List ℕ
drop1 [] = []
drop1 (x ∷ xs) = xs

unfoldable pub whole : ℕ
whole = head L0

unfoldable pub slack : ℕ
slack = whole / 2 ^ 19

abbrev pub a : ℕ → ℕ
a x = eval (pad L0) x

abbrev pub b : ℕ → ℕ
b x = eval (0 ∷ pad L1) x

abbrev pub c : ℕ → ℕ
c x = eval (0 ∷ 0 ∷ pad L2) x

abbrev pub d : ℕ → ℕ
d x = eval (0 ∷ 0 ∷ 0 ∷ pad L3) x

-- ---- in general: D times f's derivative is g, and g's derivative is at most M at Z
next : (D M Z : ℕ) (f g : List ℕ) → ((x : ℕ) → D * der f x ≡ eval g x) → der g Z ≤ M → Next D M Z (eval f) (eval g)
next D M Z f g e m = record {
  least = λ x h. low x;
  most = λ x h. high x h;
}
  where
    low : (x : ℕ) → D * eval f x + eval g x ≤ D * eval f (suc x) + M
    low x = omega (arith, mul-le-mul_left D (step_low f x), e x)

    high : (x : ℕ) → x < Z → D * eval f (suc x) ≤ D * eval f x + eval g x + M
    high x h = omega (arith, mul-le-mul_left D (step_high f x), e (suc x), step_high g x, le_trans (der_mono g (suc x) Z h) m)

pub eval_append : (xs ys : List ℕ) (x : ℕ) → eval (xs ++ ys) x ≡ eval xs x + x ^ length xs * eval ys x
eval_append [] ys x = rw (pow-zero x) (omega arith)
eval_append (w ∷ xs) ys x = rw (eval_append xs ys x, pow-succ' x (length xs)) (go (eval xs x) (x ^ length xs) (eval ys x))
  where
    go : (e p f : ℕ) → w + x * (e + p * f) ≡ w + x * e + x * p * f
    go e p f = omega arith

-- the same where g lacks a term of h that is at most M
wider : (D M Z : ℕ) (f g h : ℕ → ℕ) → ((x : ℕ) → x < Z → (g x ≤ h x) × (h x ≤ g x + M)) → ((x : ℕ) → D * f x + g x ≤ D * f (suc x)) → Next D M Z f g → Next D M Z f h
wider D M Z f g h t low n = record {
  least = λ x l. omega (arith, low x, t x l);
  most = λ x l. omega (arith, n.most x l, t x l);
}

-- ---- for these four
same_ab : slopes grid 1 (pad L1) ≡ pad L0
unfolding L0 L1
same_ab = refl

same_bc : slopes grid 1 (0 ∷ pad L2) ≡ 0 ∷ pad L1
unfolding L1 L2
same_bc = refl

same_cd : slopes grid 1 (0 ∷ 0 ∷ pad L3) ≡ 0 ∷ 0 ∷ pad L2
unfolding L2 L3
same_cd = refl

-- the cosine's first part without its constant
unfoldable L0' : List ℕ
L0' = drop1 (pad L0)

drop1_is : pad L0 ≡ whole ∷ L0'
unfolding L0 L0' whole
drop1_is = refl

same_da : slopes grid 1 L0' ≡ 0 ∷ 0 ∷ 0 ∷ pad L3'
unfolding L0 L0' L3'
same_da = refl

split_d : 0 ∷ 0 ∷ 0 ∷ pad L3 ≡ (0 ∷ 0 ∷ 0 ∷ pad L3') ++ (1 ∷ 0 ∷ 0 ∷ 0 ∷ [])
unfolding L3 L3'
split_d = refl

der_by : (m k : ℕ) (cs ds : List ℕ) → slopes m 1 cs ≡ ds → (x : ℕ) → m * der (k ∷ cs) x ≡ eval ds x
der_by m k cs ds e x = der_is m k cs x ∙ ap (λ (l : List ℕ). eval l x) e

small_a : der (pad L0) reach ≤ slack
unfolding L0 whole slack
small_a = lit≤ tt

small_b : der (0 ∷ pad L1) reach ≤ slack
unfolding L0 L1 whole slack
small_b = lit≤ tt

small_c : der (0 ∷ 0 ∷ pad L2) reach ≤ slack
unfolding L0 L2 whole slack
small_c = lit≤ tt

small_d : der (0 ∷ 0 ∷ 0 ∷ pad L3') reach ≤ slack
unfolding L0 L3' whole slack
small_d = lit≤ tt

small_top : reach ^ 63 ≤ slack
unfolding L0 whole slack
small_top = lit≤ tt

top_one : (x : ℕ) → eval (1 ∷ 0 ∷ 0 ∷ 0 ∷ []) x ≡ 1
top_one x = omega arith

d_is : (x : ℕ) → d x ≡ eval (0 ∷ 0 ∷ 0 ∷ pad L3') x + x ^ 63
unfolding L3'
d_is x = ap (λ (l : List ℕ). eval l x) split_d ∙ eval_append (0 ∷ 0 ∷ 0 ∷ pad L3') (1 ∷ 0 ∷ 0 ∷ 0 ∷ []) x ∙ go (eval (0 ∷ 0 ∷ 0 ∷ pad L3') x) (x ^ 63) (eval (1 ∷ 0 ∷ 0 ∷ 0 ∷ []) x) (top_one x)
  where
    go : (e p f : ℕ) → f ≡ 1 → e + p * f ≡ e + p
    go e p f h = rw h (omega arith)

top_fits : (x : ℕ) → x < reach → (eval (0 ∷ 0 ∷ 0 ∷ pad L3') x ≤ d x) × (d x ≤ eval (0 ∷ 0 ∷ 0 ∷ pad L3') x + slack)
top_fits x h = go (d x) (eval (0 ∷ 0 ∷ 0 ∷ pad L3') x) (x ^ 63) slack (d_is x) (le_trans (pow-le-pow_left (le_of_lt h) 63) small_top)
  where
    go : (d e p m : ℕ) → d ≡ e + p → p ≤ m → (e ≤ d) × (d ≤ e + m)
    go d e p m h l = omega arith

da : (x : ℕ) → grid * der (pad L0) x ≡ eval (0 ∷ 0 ∷ 0 ∷ pad L3') x
da x = subst (λ (l : List ℕ). grid * der l x ≡ eval (0 ∷ 0 ∷ 0 ∷ pad L3') x) (sym drop1_is) (der_by grid whole L0' (0 ∷ 0 ∷ 0 ∷ pad L3') same_da x)

least_a : (D : ℕ) (f g : List ℕ) → ((x : ℕ) → D * der f x ≡ eval g x) → (x : ℕ) → D * eval f x + eval g x ≤ D * eval f (suc x)
least_a D f g e x = omega (arith, mul-le-mul_left D (step_low f x), e x)

pub osc : Osc grid slack reach a b c d
osc = record {
  na = wider grid slack reach a (eval (0 ∷ 0 ∷ 0 ∷ pad L3')) d top_fits (least_a grid (pad L0) (0 ∷ 0 ∷ 0 ∷ pad L3') da) (next grid slack reach (pad L0) (0 ∷ 0 ∷ 0 ∷ pad L3') da small_d);
  nb = next grid slack reach (0 ∷ pad L1) (pad L0) (der_by grid 0 (pad L1) (pad L0) same_ab) small_a;
  nc = next grid slack reach (0 ∷ 0 ∷ pad L2) (0 ∷ pad L1) (der_by grid 0 (0 ∷ pad L2) (0 ∷ pad L1) same_bc) small_b;
  nd = next grid slack reach (0 ∷ 0 ∷ 0 ∷ pad L3) (0 ∷ 0 ∷ pad L2) (der_by grid 0 (0 ∷ 0 ∷ pad L3) (0 ∷ 0 ∷ pad L2) same_cd) small_c;
}
