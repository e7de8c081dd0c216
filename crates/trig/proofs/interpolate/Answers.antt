-- Up or down, on sizes.
use Rattle.std.proofs.Common.{◌≡◌, ℕ, ◌<◌, ◌≤◌, pos, sym, ap, ◌∙◌, subst, le_of_lt, arith, lit<, le-leb}
use borrow.Author.Tests.{lt-leb}
use Rattle.trig.specs.Interpolation.{interpolated}
use Rattle.trig.proofs.InterpolatedSizes.{line_size, line_size_lem, line_small}
use Rattle.trig.proofs.interpolate.Goals as goal

-- a branch's number is the line's
whole : (t u f r : ℕ) → t ≤ 1073741824 → u ≤ 1073741824 → f < 65536 → line_size 65536 t u f ≡ r → (pos r ≡ interpolated 65536 (pos t) (pos u) f) × (r ≤ 16777216)
whole t u f r h k l e = (ap pos (sym e) ∙ sym (line_size_lem 65536 t u f (lit< tt) (le_of_lt l)), subst (λ (x : ℕ). x ≤ 16777216) e (line_small t u f h k l))

pub returns-then-a-b : goal.returns-then-a-b
unfolding line_size
returns-then-a-b c = let a = c.args in whole a.t a.u a.f _ (omega arith) (omega arith) (omega arith) (rw (le-leb a.t a.u (omega arith)))

pub returns-else-a-b : goal.returns-else-a-b
unfolding line_size
returns-else-a-b c = let a = c.args in whole a.t a.u a.f _ (omega arith) (omega arith) (omega arith) (rw (lt-leb a.t a.u (omega arith)))
