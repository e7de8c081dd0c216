-- One side of the law of interpolation: what a table gives between two of its nodes, against the function. The nodes are H = u + v grid steps apart and the function is asked for u steps on. A table number is R times the function, give or take t, in units of U.
-- The fraction used is f / F with F = f + f', where u F = f H + rest and rest ≤ H. The other side is the same with the signs changed.
use mathlib.Core.Path.{◌≡◌, ap}
use Prim.Native.Nat.{ℕ, zero, suc, ◌+◌, ◌*◌, ◌≤◌, ◌<◌}
use native.Mathlib.Nat.{mul-le-mul_left, mul-le-mul_right, le_trans, le_of_mul-le-mul_left, le_of_eq}
use native.Mathlib.Omega.{arith}

-- four times u v is at most (u + v)²
pub middle : (u v : ℕ) → 4 * (u * v) ≤ (u + v) * (u + v)
middle zero v = omega arith
middle (suc u) zero = omega arith
middle (suc u) (suc v) = omega (arith, middle u v)

-- the nodes' numbers in the chord's inequality
line : (R U u v P N P₀ N₀ P₁ N₁ p₀ n₀ p₁ n₁ t g : ℕ) → 2 * ((u + v) * P) + 2 * (v * N₀) + 2 * (u * N₁) ≤ 2 * ((u + v) * N) + 2 * (v * P₀) + 2 * (u * P₁) + g →
    R * P₀ + n₀ * U ≤ R * N₀ + (p₀ + t) * U → R * P₁ + n₁ * U ≤ R * N₁ + (p₁ + t) * U →
    2 * (R * ((u + v) * P)) + 2 * (v * (n₀ * U)) + 2 * (u * (n₁ * U)) ≤ 2 * (R * ((u + v) * N)) + 2 * (v * (p₀ * U)) + 2 * (u * (p₁ * U)) + 2 * ((u + v) * (t * U)) + R * g
line R U u v P N P₀ N₀ P₁ N₁ p₀ n₀ p₁ n₁ t g c h k =
    go (R * ((u + v) * P)) (R * ((u + v) * N)) (mul_chord ((u + v) * P) ((u + v) * N) (v * N₀) (u * N₁) (v * P₀) (u * P₁) c) (mul_node v P₀ N₀ n₀ p₀ h) (mul_node u P₁ N₁ n₁ p₁ k)
  where
    mul_chord : (A B C D E G : ℕ) → 2 * A + 2 * C + 2 * D ≤ 2 * B + 2 * E + 2 * G + g → 2 * (R * A) + 2 * (R * C) + 2 * (R * D) ≤ 2 * (R * B) + 2 * (R * E) + 2 * (R * G) + R * g
    mul_chord A B C D E G c = omega (arith, mul-le-mul_left R c)

    mul_node : (v P N n p : ℕ) → R * P + n * U ≤ R * N + (p + t) * U → R * (v * P) + v * (n * U) ≤ R * (v * N) + v * (p * U) + v * (t * U)
    mul_node v P N n p h = omega (arith, mul-le-mul_left v h)

    go : (A B : ℕ) → 2 * A + 2 * (R * (v * N₀)) + 2 * (R * (u * N₁)) ≤ 2 * B + 2 * (R * (v * P₀)) + 2 * (R * (u * P₁)) + R * g →
        R * (v * P₀) + v * (n₀ * U) ≤ R * (v * N₀) + v * (p₀ * U) + v * (t * U) → R * (u * P₁) + u * (n₁ * U) ≤ R * (u * N₁) + u * (p₁ * U) + u * (t * U) →
        2 * A + 2 * (v * (n₀ * U)) + 2 * (u * (n₁ * U)) ≤ 2 * B + 2 * (v * (p₀ * U)) + 2 * (u * (p₁ * U)) + 2 * ((u + v) * (t * U)) + R * g
    go A B c h k = omega arith

-- the fraction f / F for u / H
fraction : (U H F u v f f' rest p₀ n₀ p₁ n₁ Q : ℕ) → u * F ≡ f * H + rest → v * F + rest ≡ f' * H → rest ≤ H → p₁ + n₀ ≤ p₀ + n₁ + F * Q →
    v * F * p₀ + u * F * p₁ + H * (f' * n₀ + f * n₁) ≤ H * (f' * p₀ + f * p₁) + (v * F * n₀ + u * F * n₁) + H * (F * Q)
fraction U H F u v f f' rest p₀ n₀ p₁ n₁ Q e e' l h =
    go (v * F) (u * F) e e' (F * Q) (le_trans (mul-le-mul_left rest h) (split rest)) (mul-le-mul_right (F * Q) l)
  where
    split : (r : ℕ) → r * (p₀ + n₁ + F * Q) ≤ r * p₀ + r * n₁ + r * (F * Q)
    split r = omega arith

    go : (X Y : ℕ) → Y ≡ f * H + rest → X + rest ≡ f' * H → (Z : ℕ) → rest * (p₁ + n₀) ≤ rest * p₀ + rest * n₁ + rest * Z → rest * Z ≤ H * Z →
        X * p₀ + Y * p₁ + H * (f' * n₀ + f * n₁) ≤ H * (f' * p₀ + f * p₁) + (X * n₀ + Y * n₁) + H * Z
    go X Y e e' Z h k = omega (arith, ap (λ (w : ℕ). w * p₀) e', ap (λ (w : ℕ). w * n₀) e', ap (λ (w : ℕ). w * p₁) e, ap (λ (w : ℕ). w * n₁) e)

half : (u v A B n₀ n₁ p₀ p₁ t q U G : ℕ) → 2 * A + 2 * (v * (n₀ * U)) + 2 * (u * (n₁ * U)) ≤ 2 * B + 2 * (v * (p₀ * U)) + 2 * (u * (p₁ * U)) + 2 * ((u + v) * (t * U)) + G → G ≤ 2 * ((u + v) * (q * U)) →
    A + v * (n₀ * U) + u * (n₁ * U) ≤ B + v * (p₀ * U) + u * (p₁ * U) + ((u + v) * (t * U) + (u + v) * (q * U))
half u v A B n₀ n₁ p₀ p₁ t q U G x y = omega arith

times : (F u v A B n₀ n₁ p₀ p₁ E U : ℕ) → A + v * (n₀ * U) + u * (n₁ * U) ≤ B + v * (p₀ * U) + u * (p₁ * U) + E → F * A + (v * F * n₀ + u * F * n₁) * U ≤ F * B + (v * F * p₀ + u * F * p₁) * U + F * E
times F u v A B n₀ n₁ p₀ p₁ E U h = omega (arith, mul-le-mul_left F h)

gather : (R U H F P N m m' t q Q X Y p n : ℕ) → F * (R * (H * P)) + Y * U ≤ F * (R * (H * N)) + X * U + F * (H * (t * U) + H * (q * U)) → (X + H * n) * U ≤ (H * p + Y + H * (F * Q)) * U →
    H * U * (p + F * (64 * m')) ≤ H * U * (n + F * (64 * m) + F * 65) → F * (H * (R * P + 64 * m' * U)) ≤ F * (H * (R * N + (64 * m + (t + q + Q + 65)) * U))
gather R U H F P N m m' t q Q X Y p n a b c =
    le_trans (le_of_eq (left (R * P) (64 * m' * U))) (le_trans
    (join _ _ (Y * U) (X * U) _ _ _ _ _ _ _ _ (le_trans (le_of_eq (ap (λ (w : ℕ). w + Y * U) (swap R P))) (le_trans a (le_of_eq (right_a X))))
    (le_trans (le_of_eq (left_b X n)) (le_trans b (le_of_eq (right_b p Y)))) (le_trans (le_of_eq (left_c p m')) (le_trans c (le_of_eq (right_c n m)))))
    (le_of_eq (right (R * N) (64 * m * U))))
  where
    swap : (R P : ℕ) → F * (H * (R * P)) ≡ F * (R * (H * P))
    swap R P = omega arith

    left : (x y : ℕ) → F * (H * (x + y)) ≡ F * (H * x) + F * (H * y)
    left x y = omega arith

    right_a : (X : ℕ) → F * (R * (H * N)) + X * U + F * (H * (t * U) + H * (q * U)) ≡ F * (H * (R * N)) + X * U + (F * (H * (t * U)) + F * (H * (q * U)))
    right_a X = omega arith

    left_b : (X n : ℕ) → X * U + H * n * U ≡ (X + H * n) * U
    left_b X n = omega arith

    right_b : (p Y : ℕ) → (H * p + Y + H * (F * Q)) * U ≡ H * p * U + Y * U + F * (H * (Q * U))
    right_b p Y = omega arith

    left_c : (p m' : ℕ) → H * p * U + F * (H * (64 * m' * U)) ≡ H * U * (p + F * (64 * m'))
    left_c p m' = omega arith

    right_c : (n m : ℕ) → H * U * (n + F * (64 * m) + F * 65) ≡ H * n * U + F * (H * (64 * m * U)) + F * (H * (65 * U))
    right_c n m = omega arith

    right : (x y : ℕ) → F * (H * x) + F * (H * (64 * m * U)) + F * (H * (t * U)) + F * (H * (q * U)) + F * (H * (Q * U)) + F * (H * (65 * U)) ≡ F * (H * (x + (64 * m + (t + q + Q + 65)) * U))
    right x y = omega arith

    join : (A B Y X T S n p Z m' m s : ℕ) → A + Y ≤ B + X + (T + S) → X + n ≤ p + Y + Z → p + m' ≤ n + m + s → A + m' ≤ B + m + T + S + Z + s
    join A B Y X T S n p Z m' m s a b c = omega arith

-- the result m, in 64ths of a table unit, off by at most 65 units from what the fraction gives; the sag is at most q units and the table's step at most F Q units
pub look : (R U F u v f f' rest P N P₀ N₀ P₁ N₁ p₀ n₀ p₁ n₁ t g q Q m m' : ℕ) → 0 < u + v → 0 < F →
    2 * ((u + v) * P) + 2 * (v * N₀) + 2 * (u * N₁) ≤ 2 * ((u + v) * N) + 2 * (v * P₀) + 2 * (u * P₁) + g →
    R * P₀ + n₀ * U ≤ R * N₀ + (p₀ + t) * U → R * P₁ + n₁ * U ≤ R * N₁ + (p₁ + t) * U →
    R * g ≤ 2 * ((u + v) * (q * U)) →
    u * F ≡ f * (u + v) + rest → v * F + rest ≡ f' * (u + v) → rest ≤ u + v → p₁ + n₀ ≤ p₀ + n₁ + F * Q →
    f' * p₀ + f * p₁ + F * (64 * m') ≤ f' * n₀ + f * n₁ + F * (64 * m) + F * 65 →
    R * P + 64 * m' * U ≤ R * N + (64 * m + (t + q + Q + 65)) * U
look R U F u v f f' rest P N P₀ N₀ P₁ N₁ p₀ n₀ p₁ n₁ t g q Q m m' Hp Fp c h k s e e' l st r =
    let H = u + v in
    let a₁ = half u v (R * (H * P)) (R * (H * N)) n₀ n₁ p₀ p₁ t q U (R * g) (line R U u v P N P₀ N₀ P₁ N₁ p₀ n₀ p₁ n₁ t g c h k) s in
    let a₂ = times F u v (R * (H * P)) (R * (H * N)) n₀ n₁ p₀ p₁ (H * (t * U) + H * (q * U)) U a₁ in
    let a₃ = fraction U H F u v f f' rest p₀ n₀ p₁ n₁ Q e e' l st in
    le_of_mul-le-mul_left (le_of_mul-le-mul_left (gather R U H F P N m m' t q Q (v * F * p₀ + u * F * p₁) (v * F * n₀ + u * F * n₁) (f' * p₀ + f * p₁) (f' * n₀ + f * n₁) a₂ (mul-le-mul_right U a₃) (mul-le-mul_left (H * U) r)) Fp) Hp
