-- The table's numbers against the sums at the nodes s · 3373259426 / 2^41 up to 16.
use mathlib.Core.Bool.{Bool, true, false, ◌&&◌}
use mathlib.Core.List.{List}
use Prim.Native.Nat.{ℕ, zero, suc, ◌+◌, ◌-◌, ◌*◌, ◌^◌, ◌%◌, ◌≤◌, ◌<◌}
use mathlib.Core.Path.{◌≡◌, sym, ap, ◌∙◌, subst}
use mathlib.Core.Logic.{inl, inr}
use native.Mathlib.Nat.{eq-or-lt_of_le, zero-add}
use native.Mathlib.Omega.{arith}
use lib.Dec.{T, leb, leb→le}
use lib.ListN.{get_or}
use lib.Ieee.Fits.{and_l, and_r}
use Rattle.series.specs.Tables.{sines}
use Rattle.series.proofs.TableTest.{split}
use Rattle.series.proofs.Polynomials.{eval, pad, pad_is}
use Rattle.series.proofs.SinePolynomials.{L0, L1, L2, L3, whole, table_step, a, b, c, d}

-- the quarter table carried over the 4,096 steps: what it is above zero, and what below
abbrev pub above : List ℕ → ℕ → ℕ
above tab m = elim (leb m 1024) [ true ↦ get_or tab m 0 | false ↦ elim (leb m 2048) [ true ↦ get_or tab (2048 - m) 0 | false ↦ 0 ] ]

abbrev pub below : List ℕ → ℕ → ℕ
below tab m = elim (leb m 2048) [ true ↦ 0 | false ↦ elim (leb m 3072) [ true ↦ get_or tab (m - 2048) 0 | false ↦ get_or tab (4096 - m) 0 ] ]

abbrev pub near : ℕ → ℕ → ℕ → ℕ → ℕ → Bool
near w f g p n = leb (2 ^ 30 * f + n * w) (2 ^ 30 * g + (p + 4) * w) && leb (2 ^ 30 * g + p * w) (2 ^ 30 * f + (n + 4) * w)

abbrev pub node : List ℕ → List ℕ → List ℕ → List ℕ → List ℕ → ℕ → ℕ → Bool
node l0 l1 l2 l3 tab w s =
    let x = s * table_step in
    let y = x * x * (x * x) in
    let m = s % 4096 in
    let k = (s + 1024) % 4096 in
    near w (x * eval l1 y) (x * (x * (x * eval l3 y))) (above tab m) (below tab m) && near w (eval l0 y) (x * (x * eval l2 y)) (above tab k) (below tab k)

abbrev pub from : List ℕ → List ℕ → List ℕ → List ℕ → List ℕ → ℕ → ℕ → ℕ → Bool
from l0 l1 l2 l3 tab w zero s = true
from l0 l1 l2 l3 tab w (suc n) s = elim (node l0 l1 l2 l3 tab w s) [ true ↦ from l0 l1 l2 l3 tab w n (suc s) | false ↦ false ]

abbrev pub Passes : ℕ → Type 0
Passes s = T (from L0 L1 L2 L3 sines whole 1305 s)

from_sound : (l0 l1 l2 l3 tab : List ℕ) (w n s : ℕ) → T (from l0 l1 l2 l3 tab w n s) → (i : ℕ) → s ≤ i → i < s + n → T (node l0 l1 l2 l3 tab w i)
from_sound l0 l1 l2 l3 tab w zero s t i h l = absurd (omega arith)
from_sound l0 l1 l2 l3 tab w (suc n) s t i h l =
    let r = split (node l0 l1 l2 l3 tab w s) (from l0 l1 l2 l3 tab w n (suc s)) t in
    elim (eq-or-lt_of_le h) [
      | inl e ↦ subst (λ (m : ℕ). T (node l0 l1 l2 l3 tab w m)) e r.0
      | inr k ↦ from_sound l0 l1 l2 l3 tab w n (suc s) r.1 i k (omega arith)
    ]

abbrev pub Node : ℕ → Type 0
Node s = T (node L0 L1 L2 L3 sines whole s)

pub chunk : (s : ℕ) → Passes s → (i : ℕ) → s ≤ i → i < s + 1305 → Node i
chunk s t i h l = from_sound L0 L1 L2 L3 sines whole 1305 s t i h l

-- what a passed node says
pub record Near (w f g p n : ℕ) : Type 0 where
  pub high : 2 ^ 30 * f + n * w ≤ 2 ^ 30 * g + (p + 4) * w
  pub low : 2 ^ 30 * g + p * w ≤ 2 ^ 30 * f + (n + 4) * w

near_is : (w f g p n : ℕ) → T (near w f g p n) → Near w f g p n
near_is w f g p n t =
    let x = leb (2 ^ 30 * f + n * w) (2 ^ 30 * g + (p + 4) * w) in
    let y = leb (2 ^ 30 * g + p * w) (2 ^ 30 * f + (n + 4) * w) in
    record { high = leb→le (2 ^ 30 * f + n * w) (2 ^ 30 * g + (p + 4) * w) (and_l x y t); low = leb→le (2 ^ 30 * g + p * w) (2 ^ 30 * f + (n + 4) * w) (and_r x y t) }

pub record Both (s : ℕ) : Type 0 where
  pub sine : Near whole (b (s * table_step)) (d (s * table_step)) (above sines (s % 4096)) (below sines (s % 4096))
  pub cosine : Near whole (a (s * table_step)) (c (s * table_step)) (above sines ((s + 1024) % 4096)) (below sines ((s + 1024) % 4096))

pub both : (s : ℕ) → Node s → Both s
both s t =
    let x = s * table_step in
    let y = x * x * (x * x) in
    let m = s % 4096 in
    let k = (s + 1024) % 4096 in
    let e0 : eval (pad L0) x ≡ eval L0 y = pad_is L0 x in
    let e1 : 0 + x * eval (pad L1) x ≡ x * eval L1 y = zero-add (x * eval (pad L1) x) ∙ ap (λ (w : ℕ). x * w) (pad_is L1 x) in
    let e2 : 0 + x * (0 + x * eval (pad L2) x) ≡ x * (x * eval L2 y) = zero-add _ ∙ ap (λ (w : ℕ). x * w) (zero-add _ ∙ ap (λ (w : ℕ). x * w) (pad_is L2 x)) in
    let e3 : 0 + x * (0 + x * (0 + x * eval (pad L3) x)) ≡ x * (x * (x * eval L3 y)) = zero-add _ ∙ ap (λ (w : ℕ). x * w) (zero-add _ ∙ ap (λ (w : ℕ). x * w) (zero-add _ ∙ ap (λ (w : ℕ). x * w) (pad_is L3 x))) in
    let n1 = near whole (x * eval L1 y) (x * (x * (x * eval L3 y))) (above sines m) (below sines m) in
    let n2 = near whole (eval L0 y) (x * (x * eval L2 y)) (above sines k) (below sines k) in
    let q1 = near_is whole (x * eval L1 y) (x * (x * (x * eval L3 y))) (above sines m) (below sines m) (and_l n1 n2 t) in
    let q2 = near_is whole (eval L0 y) (x * (x * eval L2 y)) (above sines k) (below sines k) (and_r n1 n2 t) in
    record {
      sine = subst (λ (g : ℕ). Near whole (b x) g (above sines m) (below sines m)) (sym e3) (subst (λ (f : ℕ). Near whole f (x * (x * (x * eval L3 y))) (above sines m) (below sines m)) (sym e1) q1);
      cosine = subst (λ (g : ℕ). Near whole (a x) g (above sines k) (below sines k)) (sym e2) (subst (λ (f : ℕ). Near whole f (x * (x * eval L2 y)) (above sines k) (below sines k)) (sym e0) q2);
    }
