-- What a call answers by a list of checks: the state unless one applies.
use Rattle.std.specs.Prelude.{if◌then◌else◌}
use Prim.Native.Nat.{ℕ}
use mathlib.Core.Path.{◌≡◌, sym, ap, ◌∙◌}
use mathlib.Core.List.{List, ◌++◌}
use lib.Dec.{T, eqb}
use lib.Ieee.{Float}
use borrow.Author.Tests.{ne_eqb}
use Rattle.card.specs.Checks.{Refusal, first_of}
use Rattle.card.proofs.Checking.{numbered, passed_on}
use Rattle.state.specs.State.{Answered, answered, unless_refused}

module _ (s new : List Float) where
  abbrev outcome : ℕ → Answered
  outcome k = answered k (if eqb k 0 then new else s)

  pub unless_passed : (checks : List Refusal) → first_of checks ≡ 0 → answered 0 new ≡ unless_refused checks s new
  unless_passed checks e = sym (ap outcome e)

  pub unless_refused_lem : (checks : List Refusal) (k : ℕ) → k ≡ first_of checks → (k ≡ 0 → ⊥) → answered k s ≡ unless_refused checks s new
  unless_refused_lem checks k e x =
      let kept : answered k s ≡ outcome k = rw (ne_eqb k 0 x) in kept ∙ ap outcome e

  pub unless_later : (checks later : List Refusal) → T (numbered checks) → first_of checks ≡ 0 → unless_refused (checks ++ later) s new ≡ unless_refused later s new
  unless_later checks later t e = ap outcome (passed_on checks later t e)
