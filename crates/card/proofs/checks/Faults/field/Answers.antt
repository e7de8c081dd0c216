use Rattle.std.proofs.Common.{ℕ, ◌≡◌, ◌+◌, ◌*◌, Bool, true, false, not, List, refl, arith, rules, tests}
use mathlib.Core.Bool.{◌||◌, ◌&&◌, and-true, and-false, or-false}
use Rattle.std.proofs.lemmas.Iterator.{YieldsList-from_range}
use Rattle.std.proofs.lemmas.Iterator.Search.{any_from_yields_List}
use lib.Ieee.{Float}
use Rattle.card.specs.declared.checks.Faults.{Faults}
use Rattle.card.specs.Parts.{any_to, float_at, set_at, outside_at, faults, field_faults}
use Rattle.card.proofs.Loops.{any_never, any_same}
use Rattle.card.proofs.checks.Faults.field.Goals as goal

module _ (f : Faults) (l : List ℕ) (low high : Float) (at count : ℕ) {used r : Bool} where
  with_use : used ≡ true → r ≡ any_to (outside_at l low high at) count → faults f.bits f.dominance (f.floats || r) f.angles f.limits f.norms ≡ field_faults f l used low high at count
  unfolding field_faults
  with_use u e =
      rw (
        u,
        e,
        any_never (λ n. not true && set_at l at n) (λ n. refl) count,
        any_same (λ n. outside_at l low high at n && true) (outside_at l low high at) count (λ n. and-true (outside_at l low high at n)),
        or-false f.bits,
      )

  without_use : used ≡ false → r ≡ any_to (set_at l at) count → faults (f.bits || r) f.dominance f.floats f.angles f.limits f.norms ≡ field_faults f l used low high at count
  unfolding field_faults
  without_use u e = rw (u, e, any_never (λ n. outside_at l low high at n && false) (λ n. and-false (outside_at l low high at n)) count, or-false f.floats)

pub returns-then-used : goal.returns-then-used
unfolding any_to float_at outside_at
returns-then-used c =
    let a = c.args in
    with_use _ _ _ _ _ _ c.if-used.true
    (any_from_yields_List (outside_at a.part.now a.bounds.low a.bounds.high a.at) _ _ _ c.any-beyond.ensures.ran (YieldsList-from_range 0 a.count a.count (cc) (omega arith))
    (λ x b q k. let place : 8 * a.at + 32 * x ≡ 8 * (a.at + 4 * x) = omega arith in rw place (search (rules, tests))))

pub returns : goal.returns
unfolding any_to set_at
returns c =
    let a = c.args in
    without_use _ _ _ _ _ _ c.if-used.false
    (any_from_yields_List (set_at a.part.now a.at) _ _ _ c.any-set.ensures.ran (YieldsList-from_range 0 a.count a.count (cc) (omega arith))
    (λ x b q k. let place : 8 * a.at + 32 * x ≡ 8 * (a.at + 4 * x) = omega arith in rw place (search (rules, tests))))
