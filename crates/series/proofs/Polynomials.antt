-- Polynomials with natural numbers for coefficients, the constant first. A step of one grid point is at least the derivative before it and at most the derivative after it.
use mathlib.Core.Path.{◌≡◌, refl, sym, ◌∙◌}
use mathlib.Core.List.{List, [], ◌∷◌}
use Prim.Native.Nat.{ℕ, suc, ◌+◌, ◌*◌, ◌≤◌}
use native.Mathlib.Nat.{mul-le-mul_left, mul-le-mul, le_refl, add-le-add}
use native.Mathlib.Omega.{arith}

abbrev pub eval : List ℕ → ℕ → ℕ
eval [] x = 0
eval (c ∷ cs) x = c + x * eval cs x

abbrev pub der : List ℕ → ℕ → ℕ
der [] x = 0
der (c ∷ cs) x = eval cs x + x * der cs x

eval_mono : (cs : List ℕ) (x y : ℕ) → x ≤ y → eval cs x ≤ eval cs y
eval_mono [] x y h = le_refl 0
eval_mono (c ∷ cs) x y h = add-le-add (le_refl c) (mul-le-mul h (eval_mono cs x y h))

pub der_mono : (cs : List ℕ) (x y : ℕ) → x ≤ y → der cs x ≤ der cs y
der_mono [] x y h = le_refl 0
der_mono (c ∷ cs) x y h = add-le-add (eval_mono cs x y h) (mul-le-mul h (der_mono cs x y h))

pub step_low : (cs : List ℕ) (x : ℕ) → eval cs x + der cs x ≤ eval cs (suc x)
step_low [] x = le_refl 0
step_low (c ∷ cs) x = go (eval cs x) (der cs x) (eval cs (suc x)) (step_low cs x)
  where
    go : (e d f : ℕ) → e + d ≤ f → c + x * e + (e + x * d) ≤ c + suc x * f
    go e d f h = omega (arith, mul-le-mul_left x h)

pub step_high : (cs : List ℕ) (x : ℕ) → eval cs (suc x) ≤ eval cs x + der cs (suc x)
step_high [] x = le_refl 0
step_high (c ∷ cs) x = go (eval cs x) (der cs (suc x)) (eval cs (suc x)) (step_high cs x)
  where
    go : (e d f : ℕ) → f ≤ e + d → c + suc x * f ≤ c + x * e + (f + suc x * d)
    go e d f h = omega (arith, mul-le-mul_left x h)

-- the derivative's coefficients, times a number
abbrev pub slopes : ℕ → ℕ → List ℕ → List ℕ
slopes m k [] = []
slopes m k (c ∷ cs) = m * (k * c) ∷ slopes m (suc k) cs

slopes_is : (m k : ℕ) (cs : List ℕ) (x : ℕ) → eval (slopes m k cs) x ≡ m * (k * eval cs x + x * der cs x)
slopes_is m k [] x = omega arith
slopes_is m k (c ∷ cs) x = rw (slopes_is m (suc k) cs x) (go (eval cs x) (der cs x))
  where
    go : (e d : ℕ) → m * (k * c) + x * (m * (suc k * e + x * d)) ≡ m * (k * (c + x * e) + x * (e + x * d))
    go e d = omega arith

pub der_is : (m c : ℕ) (cs : List ℕ) (x : ℕ) → m * der (c ∷ cs) x ≡ eval (slopes m 1 cs) x
der_is m c cs x = go (eval cs x) (der cs x) ∙ sym (slopes_is m 1 cs x)
  where
    go : (e d : ℕ) → m * (e + x * d) ≡ m * (1 * e + x * d)
    go e d = omega arith

-- every fourth coefficient, the others 0: a polynomial in x⁴
abbrev pub pad : List ℕ → List ℕ
pad [] = []
pad (c ∷ cs) = c ∷ 0 ∷ 0 ∷ 0 ∷ pad cs

pub pad_is : (cs : List ℕ) (x : ℕ) → eval (pad cs) x ≡ eval cs (x * x * (x * x))
pad_is [] x = refl
pad_is (c ∷ cs) x = rw (pad_is cs x) (go (eval cs (x * x * (x * x))))
  where
    go : (e : ℕ) → c + x * (0 + x * (0 + x * (0 + x * e))) ≡ c + x * x * (x * x) * e
    go e = omega arith
