-- Laws of what is written: a tick more, or a refusal.
use Prim.Native.Nat.{ℕ, suc, ◌+◌, ◌-◌, ◌<◌}
use native.Mathlib.Omega.{arith}
use mathlib.Core.Path.{◌≡◌, sym, ◌∙◌}
use mathlib.Core.List.{List, ◌++◌, append_assoc, append-nil}
use lib.Ieee.{Float}
use borrow.Author.Tests.{ne_eqb}
use Rattle.state.specs.State.{answered}
use Rattle.tick.specs.Run.{tick_of}
use Rattle.linkage.specs.Lines.{lines_of, refusal_of, output_of}

module _ (card : List ℕ) (bodies done : ℕ) (s : List Float) {t : List Float} {k number : ℕ} (is : number ≡ k) (e : answered k t ≡ tick_of card s) where
  ticked : (left : ℕ) → number ≡ 0 → output_of card bodies done (suc left) s ≡ lines_of (done + 1) bodies t ++ output_of card bodies (done + 1) left t
  unfolding output_of
  ticked left z = rw (← e, ← is, z)

  refused : (left : ℕ) → (number ≡ 0 → ⊥) → output_of card bodies done (suc left) s ≡ refusal_of number
  unfolding output_of
  refused left n = rw (← e, ← is, ne_eqb number 0 n)

  -- what is left after a tick, whose lines are written behind the others
  module _ (ticks : ℕ) (out : List ℕ) {total : List ℕ} (more : done < ticks) (inv : total ≡ out ++ output_of card bodies done (ticks - done) s) where
    next : ticks - done ≡ suc (ticks - (done + 1))
    next = omega arith

    pub tick_written : {new : List ℕ} → number ≡ 0 → new ≡ out ++ lines_of (done + 1) bodies t → total ≡ new ++ output_of card bodies (done + 1) (ticks - (done + 1)) t
    tick_written z p =
        inv
        ∙ rw (next, ticked (ticks - (done + 1)) z, p)
        (sym (append_assoc out (lines_of (done + 1) bodies t) (output_of card bodies (done + 1) (ticks - (done + 1)) t)))

    -- nothing is left after a refusal
    pub refusal_written : {new : List ℕ} → (number ≡ 0 → ⊥) → new ≡ out ++ refusal_of number → total ≡ new ++ output_of card bodies ticks (ticks - ticks) t
    unfolding output_of
    refusal_written n p =
        let none : ticks - ticks ≡ 0 = omega arith in
        inv ∙ rw (next, refused (ticks - (done + 1)) n, p, none) (sym (append-nil _))
