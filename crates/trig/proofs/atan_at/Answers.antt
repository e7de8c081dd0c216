-- A fraction over 2^14 is four times it over 2^16.
use Rattle.std.proofs.Common.{◌≡◌, ℕ, ◌+◌, ◌*◌, ◌/◌, ◌%◌, ◌<◌, ◌≤◌, get_or, pos, sym, ap, ◌∙◌, le_of_lt, mod-lt, arith, lit<, le-ltb, lt-ltb}
use Rattle.series.specs.Tables.{arcs}
use Rattle.trig.specs.Interpolation.{interpolated}
use Rattle.trig.specs.Arctangent.{atan_at}
use Rattle.trig.proofs.InterpolatedSizes.{line_size_lem, finer}
use Rattle.trig.proofs.CarriedTable.{arc_small}
use Rattle.trig.proofs.atan_at.Goals as goal

pub interpolate-requires : goal.interpolate-requires
interpolate-requires c = let k = c.args.k in omega (arith, arc_small (k / 16384) (omega arith), arc_small (k / 16384 + 1) (omega arith))

-- 4 f over 2^16 is f over 2^14
same_line : (t u f : ℕ) → f < 16384 → interpolated 65536 (pos t) (pos u) (f * 4) ≡ interpolated 16384 (pos t) (pos u) f
same_line t u f h = line_size_lem 65536 t u (f * 4) (lit< tt) (omega arith) ∙ ap pos (sym (finer t u f)) ∙ sym (line_size_lem 16384 t u f (lit< tt) (le_of_lt h))

below : (k r : ℕ) → k < 16777216 → pos r ≡ interpolated 65536 (pos (get_or arcs (k / 16384) 0)) (pos (get_or arcs (k / 16384 + 1) 0)) (k % 16384 * 4) → pos r ≡ atan_at k
unfolding atan_at
below k r h e = rw (lt-ltb k 16777216 h) (e ∙ same_line (get_or arcs (k / 16384) 0) (get_or arcs (k / 16384 + 1) 0) (k % 16384) (mod-lt k (lit< tt)))

top : (k t : ℕ) → 16777216 ≤ k → t ≡ get_or arcs 1024 0 → pos (t / 64) ≡ atan_at k
unfolding atan_at arcs
top k t h e = rw (le-ltb k 16777216 h, e)

pub returns-then-k-lt16777216 : goal.returns-then-k-lt16777216
returns-then-k-lt16777216 c = (below c.args.k c.interpolate.result (omega arith) (cc), c.interpolate.ensures.1)

pub returns-else-k-lt16777216 : goal.returns-else-k-lt16777216
returns-else-k-lt16777216 c = (top c.args.k c.arctangent_at-else-k-lt16777216.result (omega arith) c.arctangent_at-else-k-lt16777216.ensures, omega (arith, arc_small 1024 (lit< tt)))
