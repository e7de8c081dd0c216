-- Four functions on the grid, each the next one's derivative, as the four parts of the sine and cosine sums are: a and c of the cosine (a - c), b and d of the sine (b - d).
-- A grid step is 1 / D, and M is what each relation may be off by. From a point where both are at most w in size, both are at most w + j k after j steps, while that is at most q.
use mathlib.Core.Path.{◌≡◌}
use Prim.Native.Nat.{ℕ, zero, suc, ◌+◌, ◌*◌, ◌≤◌, ◌<◌}
use native.Mathlib.Nat.{add-zero, add-suc, mul-le-mul_left, le_of_mul-le-mul_left, le_trans}
use native.Mathlib.Omega.{arith}

-- D times the step of f is g, give or take M
pub record Next (D M Z : ℕ) (f g : ℕ → ℕ) : Type 0 where
  pub least : (x : ℕ) → x < Z → D * f x + g x ≤ D * f (suc x) + M
  pub most : (x : ℕ) → x < Z → D * f (suc x) ≤ D * f x + g x + M

pub record Osc (D M Z : ℕ) (a b c d : ℕ → ℕ) : Type 0 where
  pub na : Next D M Z a d
  pub nb : Next D M Z b a
  pub nc : Next D M Z c b
  pub nd : Next D M Z d c

-- |b - d| ≤ w and |a - c| ≤ w at x
pub record Within (a b c d : ℕ → ℕ) (w x : ℕ) : Type 0 where
  pub bd : b x ≤ d x + w
  pub db : d x ≤ b x + w
  pub ac : a x ≤ c x + w
  pub ca : c x ≤ a x + w

module _ (D M Z : ℕ) (a b c d : ℕ → ℕ) (o : Osc D M Z a b c d) (w k q : ℕ) (pos : 0 < D) (room : q + 2 * M ≤ D * k) where
  -- f - g changes by at most k where h - i is at most q
  one : (f f' g g' h i : ℕ) → D * f' ≤ D * f + h + M → D * g + i ≤ D * g' + M → h ≤ i + q → (v : ℕ) → f ≤ g + v → f' ≤ g' + (v + k)
  one f f' g g' h i p r s v t = le_of_mul-le-mul_left (go t) pos
    where
      go : f ≤ g + v → D * f' ≤ D * (g' + (v + k))
      go t = omega (arith, mul-le-mul_left D t)

  pub stays : (x j : ℕ) → x + j ≤ Z → w + j * k ≤ q → Within a b c d w x → Within a b c d (w + j * k) (x + j)
  stays x zero h l e = rw (add-zero x) (record { bd = omega (arith, e.bd); db = omega (arith, e.db); ac = omega (arith, e.ac); ca = omega (arith, e.ca) })
  stays x (suc j) h l e =
      let y = x + j in
      let y< : y < Z = omega arith in
      let i = stays x j (omega arith) (omega arith) e in
      let v = w + j * k in
      let v≤ : v ≤ q = omega arith in
      let same : v + k ≡ w + suc j * k = omega arith in
      rw (add-suc x j, ← same)
      (record {
        bd = one (b y) (b (suc y)) (d y) (d (suc y)) (a y) (c y) (o.nb.most y y<) (o.nd.least y y<) (le_trans i.ac (omega arith)) v i.bd;
        db = one (d y) (d (suc y)) (b y) (b (suc y)) (c y) (a y) (o.nd.most y y<) (o.nb.least y y<) (le_trans i.ca (omega arith)) v i.db;
        ac = one (a y) (a (suc y)) (c y) (c (suc y)) (d y) (b y) (o.na.most y y<) (o.nc.least y y<) (le_trans i.db (omega arith)) v i.ac;
        ca = one (c y) (c (suc y)) (a y) (a (suc y)) (b y) (d y) (o.nc.most y y<) (o.na.least y y<) (le_trans i.bd (omega arith)) v i.ca;
      })
