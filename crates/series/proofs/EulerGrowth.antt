-- Euler's series for the arctangent: how far a partial sum grows from p / q to r / q, r = p + d, both at most 1.
-- With A = p² + q² and B = r² + q²: A E(r) ≤ A E(p) + d q + d² E(r), and B E(p) + d q ≤ B E(r) + d² E(p) + what the missing terms come to.
use mathlib.Core.Path.{◌≡◌, ap, ◌∙◌}
use Prim.Native.Nat.{ℕ, zero, suc, ◌+◌, ◌*◌, ◌^◌, ◌≤◌}
use native.Mathlib.Nat.{pow-zero, pow-suc, mul-le-mul_left, mul-le-mul_right, pow-le-pow_left}
use native.Mathlib.Omega.{arith}
use Rattle.series.proofs.Numbers.{mul_pow}
use Rattle.series.specs.Series.{euler_term, euler_sum}

unfoldable pub ev : ℕ → ℕ
ev zero = 1
ev (suc n) = ev n * suc (2 * n + 1)

unfoldable pub od : ℕ → ℕ
od zero = 1
od (suc n) = od n * (2 * n + 1)

-- one term, in the abstract: powers of u = v + e
term_up : (c e m u v : ℕ) → u ≡ v + e → c * e ≤ m * u → (k : ℕ) → c * u ^ k ≤ c * v ^ k + k * m * u ^ k
term_up c e m u v h f zero = rw (pow-zero u, pow-zero v) (omega arith)
term_up c e m u v h f (suc k) =
    let le : v ≤ u = omega arith in
    let P = u ^ k in
    let Q = v ^ k in
    rw (pow-suc u k, pow-suc v k) (go P Q (term_up c e m u v h f k) (pow-le-pow_left le k))
  where
    go : (P Q : ℕ) → c * P ≤ c * Q + k * m * P → Q ≤ P → c * (P * u) ≤ c * (Q * v) + suc k * m * (P * u)
    go P Q i l =
        omega (arith, mul-le-mul_right u i, mul-le-mul_right Q f, mul-le-mul_left (m * u) l, ap (λ (w : ℕ). c * Q * w) h)

term_down : (c e m u v : ℕ) → u ≡ v + e → m * v ≤ c * e → (k : ℕ) → c * v ^ k + k * m * v ^ k ≤ c * u ^ k
term_down c e m u v h f zero = rw (pow-zero u, pow-zero v) (omega arith)
term_down c e m u v h f (suc k) =
    let le : v ≤ u = omega arith in
    rw (pow-suc u k, pow-suc v k) (go (u ^ k) (v ^ k) (term_down c e m u v h f k) (pow-le-pow_left le k))
  where
    go : (P Q : ℕ) → c * Q + k * m * Q ≤ c * P → Q ≤ P → c * (Q * v) + suc k * m * (Q * v) ≤ c * (P * u)
    go P Q i l =
        omega (arith, mul-le-mul_right v i, mul-le-mul_right Q f, mul-le-mul_left (c * e) l, ap (λ (w : ℕ). c * P * w) h)

pub top_is : (n p q : ℕ) → euler_term n p q ≡ p * q * (p * p) ^ n * ev n
unfolding ev
top_is zero p q = rw (pow-zero (p * p)) (omega arith)
top_is (suc n) p q = rw (top_is n p q, pow-suc (p * p) n) (omega arith)

square_pow : (r A n : ℕ) → (r * (r * A)) ^ n ≡ (r * r) ^ n * A ^ n
square_pow r A n = ap (λ (w : ℕ). w ^ n) (same r) ∙ mul_pow (r * r) A n
  where
    same : (r : ℕ) → r * (r * A) ≡ r * r * A
    same r = omega arith

top_times : (r q A n : ℕ) → A ^ n * euler_term n r q ≡ r * q * (r * (r * A)) ^ n * ev n
top_times r q A n = rw (top_is n r q) (go (A ^ n) ((r * r) ^ n) ((r * (r * A)) ^ n) (r * q) (ev n) (square_pow r A n))
  where
    go : (a x y c t : ℕ) → y ≡ x * a → a * (c * x * t) ≡ c * y * t
    go a x y c t h = rw h (omega arith)

-- one more term, in the abstract: a and b for A^n and B^n, N and M for the sums at r and p, s for 2n + 1
-- (`omega` takes 64 monomials and no more, so each product is put in order by an equation of its own)
spread : (k x y z v w : ℕ) → x + y ≤ z + v + w → k * x + k * y ≤ k * z + k * v + k * w
spread k x y z v w h = omega (arith, mul-le-mul_left k h)

e_sum : (A a N B s c : ℕ) → A * (a * A * (N * (B * s) + c)) ≡ A * B * s * (A * (a * N)) + A * A * (a * c)
e_sum A a N B s c = omega arith

e_other : (A b M B s c : ℕ) → A * (b * B * (M * (A * s) + c)) ≡ A * B * s * (A * (b * M)) + A * B * (b * c)
e_other A b M B s c = omega arith

e_sq : (A a N B s c d : ℕ) → d * d * (a * A * (N * (B * s) + c)) ≡ A * B * s * (d * d * (a * N)) + d * d * A * (a * c)
e_sq A a N B s c d = omega arith

e_one : (d q w s a A b B : ℕ) → d * q * (w * s * (a * A * (b * B))) ≡ A * B * s * (d * q * (w * (a * b)))
e_one d q w s a A b B = omega arith

e_last : (d q t s x r A : ℕ) → d * q * (t * s * (x * (r * (r * A)))) ≡ A * q * t * (d * s * (r * r) * x)
e_last d q t s x r A = omega arith

e_mid : (A B s d q t x : ℕ) → A * B * s * (d * q * (t * x)) ≡ A * q * t * (d * s * B * x)
e_mid A B s d q t x = omega arith

e_top : (A B r q x t c : ℕ) → c ≡ r * q * x * t → A * B * c ≡ A * q * t * (B * r * x)
e_top A B r q x t c h = rw h (omega arith)

e_topd : (A d r q x t c : ℕ) → c ≡ r * q * x * t → d * d * A * c ≡ A * q * t * (d * d * r * x)
e_topd A d r q x t c h = rw h (omega arith)

step_up : (A B r p d q a b N M ur up x y t w s : ℕ) → A * (a * N) + d * q * (t * x) ≤ A * (b * M) + d * d * (a * N) + d * q * (w * (a * b)) →
    A * r * x + d * suc s * (r * r) * x ≤ B * p * y + d * d * r * x + d * s * B * x → a * ur ≡ r * q * x * t → b * up ≡ p * q * y * t →
    A * (a * A * (N * (B * s) + ur)) + d * q * (t * suc s * (x * (r * (r * A)))) ≤ A * (b * B * (M * (A * s) + up)) + d * d * (a * A * (N * (B * s) + ur)) + d * q * (w * s * (a * A * (b * B)))
step_up A B r p d q a b N M ur up x y t w s U R er ep =
    rw (e_sum A a N B s ur, e_other A b M B s up, e_sq A a N B s ur d, e_one d q w s a A b B, e_last d q t (suc s) x r A, e_top A A r q x t (a * ur) er, e_top A B p q y t (b * up) ep, e_topd A d r q x t (a * ur) er)
    (join (A * B * s * (A * (a * N))) (A * B * s * (d * q * (t * x))) _ _ _ (A * q * t * (A * r * x)) _ _ _ _ (spread (A * B * s) _ _ _ _ _ U) (spread (A * q * t) _ _ _ _ _ R) (e_mid A B s d q t x))
  where
    join : (c₁ c₂ c₃ c₄ c₅ e₁ e₂ e₃ e₄ e₅ : ℕ) → c₁ + c₂ ≤ c₃ + c₄ + c₅ → e₁ + e₂ ≤ e₃ + e₄ + e₅ → c₂ ≡ e₅ → c₁ + e₁ + e₂ ≤ c₃ + e₃ + (c₄ + e₄) + c₅
    join c₁ c₂ c₃ c₄ c₅ e₁ e₂ e₃ e₄ e₅ h k l = omega arith

step_down : (A B r p d q a b N M ur up x y t w s : ℕ) → B * (b * M) + d * q * (w * (b * a)) ≤ B * (a * N) + d * d * (b * M) + d * q * (t * y) →
    B * p * y + d * s * A * y ≤ A * r * x + d * d * p * y + d * suc s * (p * p) * y → a * ur ≡ r * q * x * t → b * up ≡ p * q * y * t →
    B * (b * B * (M * (A * s) + up)) + d * q * (w * s * (b * B * (a * A))) ≤ B * (a * A * (N * (B * s) + ur)) + d * d * (b * B * (M * (A * s) + up)) + d * q * (t * suc s * (y * (p * (p * B))))
step_down A B r p d q a b N M ur up x y t w s U R er ep =
    rw (e_sum B b M A s up, e_other B a N A s ur, e_sq B b M A s up d, e_one d q w s b B a A, e_last d q t (suc s) y p B, e_top B B p q y t (b * up) ep, e_top B A r q x t (a * ur) er, e_topd B d p q y t (b * up) ep)
    (join _ _ _ _ (B * A * s * (d * q * (t * y))) _ _ _ _ _ (spread (B * A * s) _ _ _ _ _ U) (spread (B * q * t) _ _ _ _ _ R) (e_mid B A s d q t y))
  where
    join : (c₁ c₂ c₃ c₄ c₅ e₁ e₂ e₃ e₄ e₅ : ℕ) → c₁ + c₂ ≤ c₃ + c₄ + c₅ → e₁ + e₂ ≤ e₃ + e₄ + e₅ → c₅ ≡ e₂ → c₁ + e₁ + c₂ ≤ c₃ + e₃ + (c₄ + e₄) + e₅
    join c₁ c₂ c₃ c₄ c₅ e₁ e₂ e₃ e₄ e₅ h k l = omega arith

module _ (p d q : ℕ) (small : p * (p + d) ≤ q * q) where
  abbrev pub r : ℕ
  r = p + d

  abbrev pub A : ℕ
  A = p * p + q * q

  abbrev pub B : ℕ
  B = (p + d) * (p + d) + q * q

  unfoldable pub u : ℕ
  u = r * (r * A)

  unfoldable pub v : ℕ
  v = p * (p * B)

  -- u = v + q² d (p + r)
  gap : u ≡ v + q * q * (d * (p + r))
  unfolding u v
  gap = omega arith

  -- p B ≤ r A
  cross : p * B ≤ r * A
  cross = omega (arith, mul-le-mul_left d small)

  fit_up : p * B * (q * q * (d * (p + r))) ≤ 2 * (d * (q * q)) * u
  unfolding u
  fit_up = go (p * B) (r * A) cross
    where
      go : (x y : ℕ) → x ≤ y → x * (q * q * (d * (p + r))) ≤ 2 * (d * (q * q)) * (r * y)
      go x y h = omega (arith, mul-le-mul_left (q * q * d * (p + r)) h)

  fit_down : 2 * (d * (q * q)) * v ≤ r * A * (q * q * (d * (p + r)))
  unfolding v
  fit_down = go (p * B) (r * A) cross
    where
      go : (x y : ℕ) → x ≤ y → 2 * (d * (q * q)) * (p * x) ≤ y * (q * q * (d * (p + r)))
      go x y h = omega (arith, mul-le-mul_left (q * q * d * (p + r)) h)

  -- the terms' powers: A^n times the n-th term at r is r q u^n (2n)!!, and B^n times that at p is p q v^n (2n)!!
  top_r : (n : ℕ) → A ^ n * euler_term n r q ≡ r * q * u ^ n * ev n
  unfolding u
  top_r n = top_times r q A n

  pub v_pow : (n : ℕ) → v ^ n ≡ (p * p) ^ n * B ^ n
  unfolding v
  v_pow n = square_pow p B n

  top_p : (n : ℕ) → B ^ n * euler_term n p q ≡ p * q * v ^ n * ev n
  unfolding v
  top_p n = top_times p q B n

  id_up : (n : ℕ) → A * r + d * (2 * n + 2) * (r * r) + 2 * n * d * (q * q) ≡ p * B + d * d * r + d * (2 * n + 1) * B
  id_up n = omega arith

  id_down : (n : ℕ) → B * p + d * (2 * n + 1) * A ≡ r * A + d * d * p + 2 * n * d * (q * q) + d * (2 * n + 2) * (p * p)
  id_down n = omega arith

  rem_up : (n : ℕ) → A * r * u ^ n + d * suc (2 * n + 1) * (r * r) * u ^ n ≤ B * p * v ^ n + d * d * r * u ^ n + d * (2 * n + 1) * B * u ^ n
  rem_up n = go (u ^ n) (v ^ n) (term_up (p * B) (q * q * (d * (p + r))) (2 * (d * (q * q))) u v gap fit_up n)
    where
      go : (x y : ℕ) → p * B * x ≤ p * B * y + n * (2 * (d * (q * q))) * x → A * r * x + d * suc (2 * n + 1) * (r * r) * x ≤ B * p * y + d * d * r * x + d * (2 * n + 1) * B * x
      go x y h = omega (arith, ap (λ (z : ℕ). z * x) (id_up n))

  rem_down : (n : ℕ) → B * p * v ^ n + d * (2 * n + 1) * A * v ^ n ≤ A * r * u ^ n + d * d * p * v ^ n + d * suc (2 * n + 1) * (p * p) * v ^ n
  rem_down n = go (u ^ n) (v ^ n) (term_down (r * A) (q * q * (d * (p + r))) (2 * (d * (q * q))) u v gap fit_down n)
    where
      go : (x y : ℕ) → r * A * y + n * (2 * (d * (q * q))) * y ≤ r * A * x → B * p * y + d * (2 * n + 1) * A * y ≤ A * r * x + d * d * p * y + d * suc (2 * n + 1) * (p * p) * y
      go x y h = omega (arith, ap (λ (z : ℕ). z * y) (id_down n))

  -- after n terms; both sides over A^n B^n (2n-1)!!
  pub grows_at_most : (n : ℕ) → A * (A ^ n * euler_sum n r q) + d * q * (ev n * u ^ n) ≤ A * (B ^ n * euler_sum n p q) + d * d * (A ^ n * euler_sum n r q) + d * q * (od n * (A ^ n * B ^ n))
  unfolding ev od u
  grows_at_most zero = rw (pow-zero A, pow-zero B, pow-zero u) (omega arith)
  grows_at_most (suc n) =
      rw (pow-suc A n, pow-suc B n, pow-suc u n)
      (step_up A B r p d q (A ^ n) (B ^ n) (euler_sum n r q) (euler_sum n p q) (euler_term n r q) (euler_term n p q) (u ^ n) (v ^ n) (ev n) (od n) (2 * n + 1) (grows_at_most n) (rem_up n) (top_r n) (top_p n))

  pub grows_at_least : (n : ℕ) → B * (B ^ n * euler_sum n p q) + d * q * (od n * (B ^ n * A ^ n)) ≤ B * (A ^ n * euler_sum n r q) + d * d * (B ^ n * euler_sum n p q) + d * q * (ev n * v ^ n)
  unfolding ev od v
  grows_at_least zero = rw (pow-zero A, pow-zero B, pow-zero v) (omega arith)
  grows_at_least (suc n) =
      rw (pow-suc A n, pow-suc B n, pow-suc v n)
      (step_down A B r p d q (A ^ n) (B ^ n) (euler_sum n r q) (euler_sum n p q) (euler_term n r q) (euler_term n p q) (u ^ n) (v ^ n) (ev n) (od n) (2 * n + 1) (grows_at_least n) (rem_down n) (top_r n) (top_p n))
