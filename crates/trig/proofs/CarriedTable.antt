-- The quarter table carried over the 4,096 steps, quadrant by quadrant: its numbers, their signs, and the sine from a step on.
use Rattle.std.proofs.Common.{◌≡◌, ℕ, zero, suc, ◌+◌, ◌-◌, ◌%◌, ◌<◌, ◌≤◌, Bool, true, false, leb, ◌⊎◌, get_or, pos, neg_ℤ, refl, ap, ◌∙◌, inl, inr, mod-lt, arith, lit<, leb→le, le-leb}
use borrow.Author.Tests.{lt-leb}
use Rattle.series.specs.Tables.{sines, arcs}
use Rattle.series.proofs.TableTest.{each}
use Rattle.series.proofs.Numbers.{lt_or_le}
use Rattle.trig.specs.Interpolation.{interpolated, over_unit}
use Rattle.trig.specs.Sine.{carried, table_sine}
use Rattle.trig.specs.Parts.{signed, QuarterAt}
use Rattle.trig.proofs.InterpolatedSizes.{line-neg}

-- ---- no entry is over 2^30
fitting : ℕ → ℕ → Bool
fitting i x = leb x 1073741824

pub sine_small : (i : ℕ) → i < 1025 → get_or sines i 0 ≤ 1073741824
unfolding sines fitting
sine_small i h = leb→le (get_or sines i 0) 1073741824 (each fitting sines tt i h)

pub arc_small : (i : ℕ) → i < 1025 → get_or arcs i 0 ≤ 1073741824
unfolding arcs fitting
arc_small i h = leb→le (get_or arcs i 0) 1073741824 (each fitting arcs tt i h)

-- ---- the four quadrants, both ends with them
abbrev at : ℕ → ℕ
at i = get_or sines i 0

none : pos (at 0) ≡ neg_ℤ (pos (at 0))
unfolding sines
none = refl

pub first : (n j : ℕ) → n % 4096 ≡ j → j ≤ 1024 → carried n ≡ pos (at j)
unfolding carried
first n j e h = rw (e, le-leb j 1024 h)

in_second : (n m : ℕ) → n % 4096 ≡ m → 1024 < m → m ≤ 2048 → carried n ≡ pos (at (2048 - m))
unfolding carried
in_second n m e l u = rw (e, lt-leb m 1024 l, le-leb m 2048 u)

in_third : (n m : ℕ) → n % 4096 ≡ m → 2048 < m → m ≤ 3072 → carried n ≡ neg_ℤ (pos (at (m - 2048)))
unfolding carried
in_third n m e l u = rw (e, lt-leb m 1024 (omega arith), lt-leb m 2048 l, le-leb m 3072 u)

in_fourth : (n m : ℕ) → n % 4096 ≡ m → 3072 < m → carried n ≡ neg_ℤ (pos (at (4096 - m)))
unfolding carried
in_fourth n m e l = rw (e, lt-leb m 1024 (omega arith), lt-leb m 2048 (omega arith), lt-leb m 3072 l)

pub second : (n j : ℕ) → n % 4096 ≡ 1024 + j → j ≤ 1024 → carried n ≡ pos (at (1024 - j))
second n zero e h = first n 1024 e (omega arith)
second n (suc j) e h = in_second n (1024 + suc j) e (omega arith) (omega arith) ∙ ap (λ (i : ℕ). pos (at i)) (omega arith)

pub third : (n j : ℕ) → n % 4096 ≡ 2048 + j → j ≤ 1024 → carried n ≡ neg_ℤ (pos (at j))
third n zero e h = in_second n 2048 e (omega arith) (omega arith) ∙ none
third n (suc j) e h = in_third n (2048 + suc j) e (omega arith) (omega arith) ∙ ap (λ (i : ℕ). neg_ℤ (pos (at i))) (omega arith)

pub fourth : (n j : ℕ) → n % 4096 ≡ (3072 + j) % 4096 → j ≤ 1024 → carried n ≡ neg_ℤ (pos (at (1024 - j)))
fourth n zero e h = in_third n 3072 e (omega arith) (omega arith)
fourth n (suc j) e h = go (lt_or_le (suc j) 1024)
  where
    go : (suc j < 1024) ⊎ (1024 ≤ suc j) → carried n ≡ neg_ℤ (pos (at (1024 - suc j)))
    go (inl l) = in_fourth n (3072 + suc j) (omega arith) (omega arith) ∙ ap (λ (i : ℕ). neg_ℤ (pos (at i))) (omega arith)
    go (inr l) = first n 0 (omega arith) (omega arith) ∙ none ∙ ap (λ (i : ℕ). neg_ℤ (pos (at i))) (omega arith)

-- ---- the wave from a step on, of the sign b and the sizes t and u
wave_is : (b : Bool) (s f t u m : ℕ) → carried s ≡ signed b t → carried (s + 1) ≡ signed b u → pos m ≡ interpolated 65536 (pos t) (pos u) f → table_sine s f ≡ over_unit (signed b m)
unfolding table_sine
wave_is false s f t u m h k e = rw (h, k, ← e)
wave_is true s f t u m h k e = rw (h, k, line-neg 65536 f (pos t) (pos u), ← e)

-- in each quadrant, with i the place in it
module _ (f i r g : ℕ) (l : i < 1024) (w : QuarterAt i f r g) where
  up : (b : Bool) (s : ℕ) → carried s ≡ signed b (at i) → carried (s + 1) ≡ signed b (at (i + 1)) → table_sine s f ≡ over_unit (signed b r)
  up b s h k = wave_is b s f (at i) (at (i + 1)) r h k w.rising

  down : (b : Bool) (s : ℕ) → carried s ≡ signed b (at (1024 - i)) → carried (s + 1) ≡ signed b (at (1024 - (i + 1))) → table_sine s f ≡ over_unit (signed b g)
  down b s h k = wave_is b s f (at (1024 - i)) (at (1023 - i)) g h (k ∙ ap (λ (j : ℕ). signed b (at j)) (omega arith)) w.falling

  in_0 : (s : ℕ) → s % 4096 ≡ i → table_sine s f ≡ over_unit (signed false r)
  in_0 s e = up false s (first s i e (omega arith)) (first (s + 1) (i + 1) (omega arith) (omega arith))

  in_1 : (s : ℕ) → s % 4096 ≡ 1024 + i → table_sine s f ≡ over_unit (signed false g)
  in_1 s e = down false s (second s i e (omega arith)) (second (s + 1) (i + 1) (omega arith) (omega arith))

  in_2 : (s : ℕ) → s % 4096 ≡ 2048 + i → table_sine s f ≡ over_unit (signed true r)
  in_2 s e = up true s (third s i e (omega arith)) (third (s + 1) (i + 1) (omega arith) (omega arith))

  in_3 : (s : ℕ) → s % 4096 ≡ 3072 + i → table_sine s f ≡ over_unit (signed true g)
  in_3 s e = down true s (fourth s i (omega arith) (omega arith)) (fourth (s + 1) (i + 1) (omega arith) (omega arith))

-- sine and cosine, which is 1,024 steps on, from the step s of the whole turn
module _ (f s r g : ℕ) (w : QuarterAt (s % 1024) f r g) where
  inside : s % 1024 < 1024
  inside = mod-lt s (lit< tt)

  pub turn_0 : s % 4096 ≡ s % 1024 → (table_sine s f ≡ over_unit (signed false r)) × (table_sine (s + 1024) f ≡ over_unit (signed false g))
  turn_0 e = (in_0 f (s % 1024) r g inside w s e, in_1 f (s % 1024) r g inside w (s + 1024) (omega arith))

  pub turn_1 : s % 4096 ≡ 1024 + s % 1024 → (table_sine s f ≡ over_unit (signed false g)) × (table_sine (s + 1024) f ≡ over_unit (signed true r))
  turn_1 e = (in_1 f (s % 1024) r g inside w s e, in_2 f (s % 1024) r g inside w (s + 1024) (omega arith))

  pub turn_2 : s % 4096 ≡ 2048 + s % 1024 → (table_sine s f ≡ over_unit (signed true r)) × (table_sine (s + 1024) f ≡ over_unit (signed true g))
  turn_2 e = (in_2 f (s % 1024) r g inside w s e, in_3 f (s % 1024) r g inside w (s + 1024) (omega arith))

  pub turn_3 : s % 4096 ≡ 3072 + s % 1024 → (table_sine s f ≡ over_unit (signed true g)) × (table_sine (s + 1024) f ≡ over_unit (signed false r))
  turn_3 e = (in_3 f (s % 1024) r g inside w s e, in_0 f (s % 1024) r g inside w (s + 1024) (omega arith))
