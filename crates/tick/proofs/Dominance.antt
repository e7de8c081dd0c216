-- Without a dominance the former choice gives each joint the inertias as they are.
use Rattle.std.specs.Prelude.{if◌then◌else◌}
use Prim.Native.Nat.{ℕ}
use native.Mathlib.Nat.{lt_of_not-le}
use native.Mathlib.Decide.{dec_le}
use mathlib.Core.Path.{◌≡◌, refl, sym, ap, ◌∙◌, subst}
use mathlib.Core.Bool.{Bool, true, false}
use mathlib.Core.List.{List, []}
use lib.ListN.{length, get_or, length-map, get_or-map, get_or-eq_default}
use lib.Dec.{T}
use lib.IntN.{pos}
use lib.Ieee.{Float}
use Rattle.vector.specs.declared.Quat.{Quat}
use Rattle.solver_body.specs.Body.{dummy_inertia}
use Rattle.solver_body.specs.declared.SolverBodyInertia.{SolverBodyInertia}
use Rattle.card.specs.Card.{at, flag, card_of}
use Rattle.card.specs.Checks.{check_of}
use Rattle.card.proofs.Accepted.{no_dominance}
use Rattle.loader.specs.Linkage.{Linkage, body_in, body_of, linkage_of}
use Rattle.tick.specs.Body.{turned_body}
use Rattle.tick.specs.Tick.{body, joint, setting, turned_linkage}
use Rattle.tick.specs.Dominance.{dominance_of, dominated, former_setting, DominanceGone}
use Rattle.tick.proofs.Turning.{body_turned}

-- each body anchored, with the dummy's inertia, or not; the dominances of the others zero
as_they_are : (f₁ f₂ : Bool) (i₁ i₂ : SolverBodyInertia) → (f₁ ≡ true → i₁ ≡ dummy_inertia) → (f₂ ≡ true → i₂ ≡ dummy_inertia)
    → dominated (if f₁ then pos 128 else pos 0) (if f₂ then pos 128 else pos 0) i₁ i₂ ≡ (i₁, i₂)
as_they_are true true i₁ i₂ a b = refl
as_they_are true false i₁ i₂ a b = rw (a refl) refl
as_they_are false true i₁ i₂ a b = rw (b refl) refl
as_they_are false false i₁ i₂ a b = refl

unchosen : (b₁ b₂ : List ℕ) (i₁ i₂ : SolverBodyInertia) → at 4 b₁ ≡ 0 → at 4 b₂ ≡ 0 → (flag 0 b₁ ≡ true → i₁ ≡ dummy_inertia) → (flag 0 b₂ ≡ true → i₂ ≡ dummy_inertia)
    → dominated (dominance_of b₁) (dominance_of b₂) i₁ i₂ ≡ (i₁, i₂)
unchosen b₁ b₂ i₁ i₂ e₁ e₂ a b = rw (e₁, e₂) (as_they_are (flag 0 b₁) (flag 0 b₂) i₁ i₂ a b)

anchored_inertia : (q : Quat) (ns : List ℕ) → flag 0 ns ≡ true → (turned_body q (body_of ns)).inertia ≡ dummy_inertia
unfolding turned_body body_in
anchored_inertia q ns e = rw e refl

module _ (card : List ℕ) (z : check_of card ≡ 0) (s : List Float) where
  abbrev K : Linkage
  K = linkage_of (card_of card)

  abbrev L : Linkage
  L = turned_linkage K s

  -- of body i
  abbrev numbers : ℕ → List ℕ
  numbers i = get_or (card_of card).bodies i []

  body_is : (i : ℕ) → body K i ≡ body_of (numbers i)
  unfolding linkage_of
  body_is i = get_or-map body_of (card_of card).bodies i []

  bodies_counted : length K.bodies ≡ length (card_of card).bodies
  unfolding linkage_of
  bodies_counted = length-map (card_of card).bodies body_of

  dummy_is : (i : ℕ) → flag 0 (numbers i) ≡ true → (body L i).inertia ≡ dummy_inertia
  dummy_is i e =
      elim (dec_le (length (card_of card).bodies) i) [
        | yes p ↦
            let none : flag 0 [] ≡ true = ap (flag 0) (sym (get_or-eq_default (card_of card).bodies [] p)) ∙ e in
            absurd (subst T (sym none) tt)
        | no p ↦ rw (body_turned K s i (rw bodies_counted (lt_of_not-le p)), body_is i) (anchored_inertia _ (numbers i) e)
      ]

  same : (motors : Bool) (j : ℕ) → former_setting (card_of card) L motors j ≡ setting L motors j
  same motors j =
      let n₁ = (joint L j).body1 in
      let n₂ = (joint L j).body2 in
      rw (unchosen (numbers n₁) (numbers n₂) (body L n₁).inertia (body L n₂).inertia (no_dominance card z n₁) (no_dominance card z n₂) (dummy_is n₁) (dummy_is n₂)) refl

pub dominance_gone : DominanceGone
dominance_gone =
    record {
      both_zero = λ i₁ i₂. refl;
      first_anchored = λ i₂. refl;
      second_anchored = λ i₁. refl;
      as_before = λ card z s. λ x motors j. same card z s motors j x;
    }
