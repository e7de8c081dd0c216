-- The law of interpolation that both tables use, from a function's chord (`Chord`) and one side of it (`Lookup`).
use mathlib.Core.Path.{◌≡◌, sym, subst, ap}
use Prim.Native.Nat.{ℕ, suc, ◌+◌, ◌-◌, ◌*◌, ◌≤◌, ◌<◌}
use native.Mathlib.Nat.{mul-le-mul_left, le_trans, le_of_mul-le-mul_left, le_of_mul-le-mul_right, add_assoc}
use native.Mathlib.Omega.{arith}
use Rattle.series.specs.Interpolation.{Sloped, Bounded, At, Interpolation}
use Rattle.series.proofs.Numbers.{swap_sums}
use Rattle.series.proofs.Chord.{sag, chord_above, chord_below, climbs, falls}
use Rattle.series.proofs.Lookup.{look, middle}

sag_fits : (R u v K q U : ℕ) → R * ((u + v) * K) ≤ 8 * (q * U) → R * (u * v * K) ≤ 2 * ((u + v) * (q * U))
sag_fits R u v K q U h = le_of_mul-le-mul_left {k = 4} (le_trans (first (mul-le-mul_left (R * K) (middle u v))) (last (mul-le-mul_left (u + v) h))) (omega arith)
  where
    first : R * K * (4 * (u * v)) ≤ R * K * ((u + v) * (u + v)) → 4 * (R * (u * v * K)) ≤ (u + v) * (R * ((u + v) * K))
    first h = omega arith

    last : (u + v) * (R * ((u + v) * K)) ≤ (u + v) * (8 * (q * U)) → (u + v) * (R * ((u + v) * K)) ≤ 4 * (2 * ((u + v) * (q * U)))
    last h = omega arith

step_fits : (R U t P₀ N₀ P₁ N₁ p₀ n₀ p₁ n₁ G Q : ℕ) → 0 < U → P₁ + N₀ ≤ P₀ + N₁ + G → R * G + 2 * t * U ≤ Q * U → R * P₀ + n₀ * U ≤ R * N₀ + (p₀ + t) * U → R * N₁ + p₁ * U ≤ R * P₁ + (n₁ + t) * U → p₁ + n₀ ≤ p₀ + n₁ + Q
step_fits R U t P₀ N₀ P₁ N₁ p₀ n₀ p₁ n₁ G Q pos c g h k = le_of_mul-le-mul_right {k = U} (go (mul-le-mul_left R c)) pos
  where
    go : R * (P₁ + N₀) ≤ R * (P₀ + N₁ + G) → (p₁ + n₀) * U ≤ (p₀ + n₁ + Q) * U
    go c = omega arith

module _ (P N p n : ℕ → ℕ) (e k z : ℕ) (s : Sloped P N p n e k z) (g : ℕ) (b : Bounded p n g z)
    (R U F t q Q H : ℕ) (Fp : 0 < F) (Up : 0 < U) (Hp : 0 < H) (sags : R * (H * (k * suc H + 4 * e)) ≤ 8 * (q * U)) (steps : R * (H * (g + e)) + 2 * t * U ≤ F * Q * U) where
  -- H = u + v, and rest is what the fraction's rounding leaves
  between : (l u v f f' rest p₀ n₀ p₁ n₁ m m' : ℕ) → u + v ≡ H → l + u + v ≤ z → At R U t (P l) (N l) p₀ n₀ → At R U t (P (l + u + v)) (N (l + u + v)) p₁ n₁ →
      u * F ≡ f * (u + v) + rest → v * F + rest ≡ f' * (u + v) → rest ≤ u + v →
      f' * p₀ + f * p₁ + F * (64 * m') ≤ f' * n₀ + f * n₁ + F * (64 * m) + F * 65 → f' * n₀ + f * n₁ + F * (64 * m) ≤ f' * p₀ + f * p₁ + F * (64 * m') + F * 65 →
      At R U (t + q + Q + 65) (P (l + u)) (N (l + u)) (64 * m) (64 * m')
  between l u v f f' rest p₀ n₀ p₁ n₁ m m' eH r a₀ a₁ e₁ e₂ er h k' =
      let y = l + u + v in
      let Hu : 0 < u + v = subst (λ (x : ℕ). 0 < x) (sym eH) Hp in
      let sg : R * (u * v * (k * suc (u + v) + 4 * e)) ≤ 2 * ((u + v) * (q * U)) = sag_fits R u v (k * suc (u + v) + 4 * e) q U (subst (λ (x : ℕ). R * (x * (k * suc x + 4 * e)) ≤ 8 * (q * U)) (sym eH) sags) in
      let st : R * ((u + v) * (g + e)) + 2 * t * U ≤ F * Q * U = subst (λ (x : ℕ). R * (x * (g + e)) + 2 * t * U ≤ F * Q * U) (sym eH) steps in
      let cl : P y + N l ≤ P l + N y + (u + v) * (g + e) = subst (λ (x : ℕ). P x + N l ≤ P l + N x + (u + v) * (g + e)) (sym (add_assoc l u v)) (climbs P N p n e k z s g b.rises l (u + v) (subst (λ (x : ℕ). x ≤ z) (add_assoc l u v) r)) in
      let fa : P l + N y ≤ P y + N l + (u + v) * (g + e) = subst (λ (x : ℕ). P l + N x ≤ P x + N l + (u + v) * (g + e)) (sym (add_assoc l u v)) (falls P N p n e k z s g b.sinks l (u + v) (subst (λ (x : ℕ). x ≤ z) (add_assoc l u v) r)) in
      record {
        high = look R U F u v f f' rest (P (l + u)) (N (l + u)) (P l) (N l) (P y) (N y) p₀ n₀ p₁ n₁ t (sag P N p n e k z s u v) q Q m m' Hu Fp (chord_above P N p n e k z s l u v r) a₀.high a₁.high sg e₁ e₂ er
            (step_fits R U t (P l) (N l) (P y) (N y) p₀ n₀ p₁ n₁ ((u + v) * (g + e)) (F * Q) Up cl st a₀.high a₁.low) h;
        low = look R U F u v f f' rest (N (l + u)) (P (l + u)) (N l) (P l) (N y) (P y) n₀ p₀ n₁ p₁ t (sag P N p n e k z s u v) q Q m' m Hu Fp (chord_below P N p n e k z s l u v r) a₀.low a₁.low sg e₁ e₂ er
            (step_fits R U t (N l) (P l) (N y) (P y) n₀ p₀ n₁ p₁ ((u + v) * (g + e)) (F * Q) Up (swap_sums (P l) (N y) (P y) (N l) ((u + v) * (g + e)) fa) st a₀.low a₁.high) k';
      }

-- what the fraction and the rest of it to the next number make of the grid steps to both
fraction : (u v f F H : ℕ) → u + v ≡ H → f * H ≤ u * F → u * F ≡ f * (u + v) + (u * F - f * H)
fraction u v f F H e h = rw e (omega arith)

cofraction : (u v f F H : ℕ) → u + v ≡ H → f ≤ F → f * H ≤ u * F → v * F + (u * F - f * H) ≡ (F - f) * (u + v)
cofraction u v f F H e f≤ h = go (F - f) (u * F - f * H) (omega arith) (omega arith)
  where
    go : (f' rest : ℕ) → f + f' ≡ F → f * H + rest ≡ u * F → v * F + rest ≡ f' * (u + v)
    go f' rest a b = omega (arith, ap (λ (x : ℕ). f * x) e, ap (λ (x : ℕ). u * x) a, ap (λ (x : ℕ). v * x) a)

pub interpolation : Interpolation
interpolation P N p n e k z g R U t q Q F H s b Fp Up Hp sags steps l u f p₀ n₀ p₁ n₁ m m' u≤ r least most a₀ a₁ line =
    let v = H - u in
    let whole : u + v ≡ H = omega arith in
    let next : l + H ≡ l + u + v = omega arith in
    let f≤ : f ≤ F = le_of_mul-le-mul_right {k = H} (omega (arith, mul-le-mul_left F u≤)) Hp in
    between P N p n e k z s g b R U F t q Q H Fp Up Hp sags steps l u v f (F - f) (u * F - f * H) p₀ n₀ p₁ n₁ m m' whole (subst (λ (x : ℕ). x ≤ z) next r) a₀ (subst (λ (x : ℕ). At R U t (P x) (N x) p₁ n₁) next a₁)
    (fraction u v f F H whole least) (cofraction u v f F H whole f≤ least) (omega arith) line.high line.low
