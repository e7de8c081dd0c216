-- A function against its chord, as interpolation in general needs it: between two points of the grid the function differs from the straight line by what a second derivative k gives.
use Prim.Native.Nat.{ℕ, zero, suc, ◌+◌, ◌*◌, ◌≤◌, ◌<◌}
use native.Mathlib.Nat.{add-zero, add-suc, mul-le-mul_left}
use native.Mathlib.Omega.{arith}
use Rattle.series.specs.Interpolation.{Sloped}

module _ (P N p n : ℕ → ℕ) (e k z : ℕ) (s : Sloped P N p n e k z) where
  slope_up : (m j : ℕ) → m + j ≤ z → p (m + j) + n m ≤ p m + n (m + j) + j * k
  slope_up m zero h = rw (add-zero m) (omega arith)
  slope_up m (suc j) h = rw (add-suc m j) (omega (arith, slope_up m j (omega arith), s.steeper (m + j) (omega arith)))

  slope_down : (m j : ℕ) → m + j ≤ z → p m + n (m + j) ≤ p (m + j) + n m + j * k
  slope_down m zero h = rw (add-zero m) (omega arith)
  slope_down m (suc j) h = rw (add-suc m j) (omega (arith, slope_down m j (omega arith), s.flatter (m + j) (omega arith)))

  fwd_up : (m j : ℕ) → m + j ≤ z → 2 * P (m + j) + 2 * N m + 2 * (j * n m) ≤ 2 * P m + 2 * N (m + j) + 2 * (j * p m) + k * (j * j) + 2 * (j * e)
  fwd_up m zero h = rw (add-zero m) (omega arith)
  fwd_up m (suc j) h = rw (add-suc m j) (omega (arith, fwd_up m j (omega arith), s.up (m + j) (omega arith), slope_up m j (omega arith)))

  fwd_down : (m j : ℕ) → m + j ≤ z → 2 * P m + 2 * N (m + j) + 2 * (j * p m) ≤ 2 * P (m + j) + 2 * N m + 2 * (j * n m) + k * (j * j) + 2 * (j * e)
  fwd_down m zero h = rw (add-zero m) (omega arith)
  fwd_down m (suc j) h = rw (add-suc m j) (omega (arith, fwd_down m j (omega arith), s.down (m + j) (omega arith), slope_down m j (omega arith)))

  bwd_up : (l j : ℕ) → l + j ≤ z → 2 * P l + 2 * N (l + j) + 2 * (j * p (l + j)) ≤ 2 * P (l + j) + 2 * N l + 2 * (j * n (l + j)) + k * (j * suc j) + 2 * (j * e)
  bwd_up l zero h = rw (add-zero l) (omega arith)
  bwd_up l (suc j) h = rw (add-suc l j) (omega (arith, bwd_up l j (omega arith), s.down (l + j) (omega arith), mul-le-mul_left (suc j) (s.steeper (l + j) (omega arith))))

  bwd_down : (l j : ℕ) → l + j ≤ z → 2 * P (l + j) + 2 * N l + 2 * (j * n (l + j)) ≤ 2 * P l + 2 * N (l + j) + 2 * (j * p (l + j)) + k * (j * suc j) + 2 * (j * e)
  bwd_down l zero h = rw (add-zero l) (omega arith)
  bwd_down l (suc j) h = rw (add-suc l j) (omega (arith, bwd_down l j (omega arith), s.up (l + j) (omega arith), mul-le-mul_left (suc j) (s.flatter (l + j) (omega arith))))

  -- what the function may differ from the line by, times 2 (u + v)
  abbrev pub sag : ℕ → ℕ → ℕ
  sag u v = u * v * (k * suc (u + v) + 4 * e)

  pub chord_above : (l u v : ℕ) → l + u + v ≤ z → 2 * ((u + v) * P (l + u)) + 2 * (v * N l) + 2 * (u * N (l + u + v)) ≤ 2 * ((u + v) * N (l + u)) + 2 * (v * P l) + 2 * (u * P (l + u + v)) + sag u v
  chord_above l u v h = omega (arith, mul-le-mul_left v (bwd_down l u (omega arith)), mul-le-mul_left u (fwd_down (l + u) v (omega arith)))

  pub chord_below : (l u v : ℕ) → l + u + v ≤ z → 2 * ((u + v) * N (l + u)) + 2 * (v * P l) + 2 * (u * P (l + u + v)) ≤ 2 * ((u + v) * P (l + u)) + 2 * (v * N l) + 2 * (u * N (l + u + v)) + sag u v
  chord_below l u v h = omega (arith, mul-le-mul_left v (bwd_up l u (omega arith)), mul-le-mul_left u (fwd_up (l + u) v (omega arith)))

  -- a slope of at most g: how far the function climbs in j steps
  pub climbs : (g : ℕ) → ((x : ℕ) → x < z → p x ≤ n x + g) → (m j : ℕ) → m + j ≤ z → P (m + j) + N m ≤ P m + N (m + j) + j * (g + e)
  climbs g b m zero h = rw (add-zero m) (omega arith)
  climbs g b m (suc j) h = rw (add-suc m j) (omega (arith, climbs g b m j (omega arith), s.up (m + j) (omega arith), b (m + j) (omega arith)))

  pub falls : (g : ℕ) → ((x : ℕ) → x < z → n x ≤ p x + g) → (m j : ℕ) → m + j ≤ z → P m + N (m + j) ≤ P (m + j) + N m + j * (g + e)
  falls g b m zero h = rw (add-zero m) (omega arith)
  falls g b m (suc j) h = rw (add-suc m j) (omega (arith, falls g b m j (omega arith), s.down (m + j) (omega arith), b (m + j) (omega arith)))
