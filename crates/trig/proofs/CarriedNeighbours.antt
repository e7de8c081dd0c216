-- Two neighbours of the carried table have one sign and two sizes; the line between them, as the law of interpolation asks.
use Rattle.std.proofs.Common.{◌≡◌, ℕ, zero, suc, ◌+◌, ◌-◌, ◌*◌, ◌%◌, ◌<◌, ◌≤◌, Bool, true, false, cond, leb, get_or, ℤ, pos, negsuc, neg_ℤ, sym, refl, ap, ◌∙◌, subst, inl, inr, mod-lt, arith, lit<, leb-false}
use borrow.Author.Tests.{lt-leb}
use Rattle.series.specs.Tables.{sines}
use Rattle.series.proofs.SineNodes.{above, below}
use Rattle.series.specs.Interpolation.{Line}
use Rattle.series.proofs.Numbers.{lt_or_le}
use Rattle.trig.specs.Sine.{carried}
use Rattle.trig.specs.Parts.{signed}
use Rattle.trig.proofs.InterpolatedSizes.{line_size, Off, off}
use Rattle.trig.proofs.CarriedTable.{first, second, third, fourth, sine_small}

pub record Sided (n : ℕ) : Type 0 where
  pub b : Bool
  pub t : ℕ
  pub u : ℕ
  pub here : carried n ≡ signed b t
  pub next : carried (n + 1) ≡ signed b u
  pub low : t ≤ 1073741824
  pub low' : u ≤ 1073741824

abbrev at : ℕ → ℕ
at i = get_or sines i 0

pub sided : (n : ℕ) → Sided n
sided n = go (n % 4096) refl (mod-lt n (lit< tt))
  where
    made : (b : Bool) (i j : ℕ) → i < 1025 → j < 1025 → carried n ≡ signed b (at i) → carried (n + 1) ≡ signed b (at j) → Sided n
    made b i j p q h k = record { b = b; t = at i; u = at j; here = h; next = k; low = sine_small i p; low' = sine_small j q }

    go : (m : ℕ) → n % 4096 ≡ m → m < 4096 → Sided n
    go m e l = elim (lt_or_le m 1024) [
      | inl h ↦ made false m (m + 1) (omega arith) (omega arith) (first n m e (omega arith)) (first (n + 1) (m + 1) (omega arith) (omega arith))
      | inr h ↦ elim (lt_or_le m 2048) [
        | inl k ↦ made false (1024 - (m - 1024)) (1024 - (m - 1024 + 1)) (omega arith) (omega arith) (second n (m - 1024) (omega arith) (omega arith)) (second (n + 1) (m - 1024 + 1) (omega arith) (omega arith))
        | inr k ↦ elim (lt_or_le m 3072) [
          | inl j ↦ made true (m - 2048) (m - 2048 + 1) (omega arith) (omega arith) (third n (m - 2048) (omega arith) (omega arith)) (third (n + 1) (m - 2048 + 1) (omega arith) (omega arith))
          | inr j ↦ made true (1024 - (m - 3072)) (1024 - (m - 3072 + 1)) (omega arith) (omega arith) (fourth n (m - 3072) (omega arith) (omega arith)) (fourth (n + 1) (m - 3072 + 1) (omega arith) (omega arith))
        ]
      ]
    ]

-- ---- what is above zero of a whole number, and what below
abbrev plus : ℤ → ℕ
plus (pos n) = n
plus (negsuc n) = 0

abbrev minus : ℤ → ℕ
minus (pos n) = 0
minus (negsuc n) = suc n

plus_neg : (n : ℕ) → 0 ≡ plus (neg_ℤ (pos n))
plus_neg zero = refl
plus_neg (suc n) = refl

minus_neg : (n : ℕ) → n ≡ minus (neg_ℤ (pos n))
minus_neg zero = refl
minus_neg (suc n) = refl

above_is : (n : ℕ) → above sines (n % 4096) ≡ plus (carried n)
unfolding carried
above_is n = let m = n % 4096 in go (leb m 1024) (leb m 2048) (leb m 3072) (at m) (at (2048 - m)) (at (m - 2048)) (at (4096 - m))
  where
    go : (x y z : Bool) (i j k l : ℕ) → elim x [ true ↦ i | false ↦ elim y [ true ↦ j | false ↦ 0 ] ] ≡ plus (cond x (pos i) (cond y (pos j) (cond z (neg_ℤ (pos k)) (neg_ℤ (pos l)))))
    go true y z i j k l = refl
    go false true z i j k l = refl
    go false false true i j k l = plus_neg k
    go false false false i j k l = plus_neg l

below_is : (n : ℕ) → below sines (n % 4096) ≡ minus (carried n)
unfolding carried
below_is n = let m = n % 4096 in start m (leb m 2048) refl
  where
    go : (x z : Bool) (i j k l : ℕ) → elim z [ true ↦ k | false ↦ l ] ≡ minus (cond z (neg_ℤ (pos k)) (neg_ℤ (pos l)))
    go x true i j k l = minus_neg k
    go x false i j k l = minus_neg l

    start : (m : ℕ) (y : Bool) → leb m 2048 ≡ y → elim y [ true ↦ 0 | false ↦ elim (leb m 3072) [ true ↦ at (m - 2048) | false ↦ at (4096 - m) ] ] ≡ minus (cond (leb m 1024) (pos (at m)) (cond y (pos (at (2048 - m))) (cond (leb m 3072) (neg_ℤ (pos (at (m - 2048)))) (neg_ℤ (pos (at (4096 - m)))))))
    start m true e = none (leb m 1024)
      where
        none : (x : Bool) → 0 ≡ minus (cond x (pos (at m)) (pos (at (2048 - m))))
        none true = refl
        none false = refl
    start m false e = rw (lt-leb m 1024 (omega (arith, leb-false m 2048 e))) (go true (leb m 3072) 0 0 (at (m - 2048)) (at (4096 - m)))

plus_signed : (b : Bool) (n : ℕ) → plus (signed b n) ≡ cond b 0 n
plus_signed true n = sym (plus_neg n)
plus_signed false n = refl

minus_signed : (b : Bool) (n : ℕ) → minus (signed b n) ≡ cond b n 0
minus_signed true n = sym (minus_neg n)
minus_signed false n = refl

-- ---- as the law of interpolation wants it
not_over : (t u f m g : ℕ) → g * t + f * u ≤ 65536 * (64 * m) + 65536 * 65 → g * t + f * u + 65536 * (64 * 0) ≤ g * 0 + f * 0 + 65536 * (64 * m) + 65536 * 65
not_over t u f m g h = omega arith

not_under : (t u f m g : ℕ) → 65536 * (64 * m) ≤ g * t + f * u + 65536 * 65 → g * 0 + f * 0 + 65536 * (64 * m) ≤ g * t + f * u + 65536 * (64 * 0) + 65536 * 65
not_under t u f m g h = omega arith

off_line : (b : Bool) (t u f m : ℕ) → f < 65536 → Off t u f m → Line 65536 f (cond b 0 t) (cond b t 0) (cond b 0 u) (cond b u 0) (cond b 0 m) (cond b m 0)
off_line false t u f m l h = record { high = not_over t u f m (65536 - f) h.high; low = not_under t u f m (65536 - f) h.low }
off_line true t u f m l h = record { high = not_under t u f m (65536 - f) h.low; low = not_over t u f m (65536 - f) h.high }

pub line_of : (n f : ℕ) → f < 65536 → let s = sided n in let m = line_size 65536 s.t s.u f in
    Line 65536 f (above sines (n % 4096)) (below sines (n % 4096)) (above sines ((n + 1) % 4096)) (below sines ((n + 1) % 4096)) (cond s.b 0 m) (cond s.b m 0)
line_of n f l =
    let s = sided n in
    let m = line_size 65536 s.t s.u f in
    let p₀ : above sines (n % 4096) ≡ cond s.b 0 s.t = above_is n ∙ ap plus s.here ∙ plus_signed s.b s.t in
    let n₀ : below sines (n % 4096) ≡ cond s.b s.t 0 = below_is n ∙ ap minus s.here ∙ minus_signed s.b s.t in
    let p₁ : above sines ((n + 1) % 4096) ≡ cond s.b 0 s.u = above_is (n + 1) ∙ ap plus s.next ∙ plus_signed s.b s.u in
    let n₁ : below sines ((n + 1) % 4096) ≡ cond s.b s.u 0 = below_is (n + 1) ∙ ap minus s.next ∙ minus_signed s.b s.u in
    subst (λ (x : ℕ). Line 65536 f x (below sines (n % 4096)) (above sines ((n + 1) % 4096)) (below sines ((n + 1) % 4096)) (cond s.b 0 m) (cond s.b m 0)) (sym p₀)
    (subst (λ (x : ℕ). Line 65536 f (cond s.b 0 s.t) x (above sines ((n + 1) % 4096)) (below sines ((n + 1) % 4096)) (cond s.b 0 m) (cond s.b m 0)) (sym n₀)
    (subst (λ (x : ℕ). Line 65536 f (cond s.b 0 s.t) (cond s.b s.t 0) x (below sines ((n + 1) % 4096)) (cond s.b 0 m) (cond s.b m 0)) (sym p₁)
    (subst (λ (x : ℕ). Line 65536 f (cond s.b 0 s.t) (cond s.b s.t 0) (cond s.b 0 s.u) x (cond s.b 0 m) (cond s.b m 0)) (sym n₁) (off_line s.b s.t s.u f m l (off s.t s.u f l)))))
