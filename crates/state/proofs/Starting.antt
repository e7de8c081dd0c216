-- What `start`, `sizes` and the checks of a state answer, for a card that is refused and for one that is not.
use Prim.Native.Nat.{ℕ, suc, ◌+◌, ◌*◌, ◌≤◌}
use native.Mathlib.Omega.{arith}
use mathlib.Core.Path.{◌≡◌, refl, sym, ap, ◌∙◌}
use mathlib.Core.Bool.{not}
use mathlib.Core.List.{List, [], ◌∷◌, ◌++◌, map, map-append}
use lib.ListN.{length, drop, replicate, length-map, replicate-append-replicate}
use lib.Seq.{sets}
use lib.Dec.{eqb}
use lib.Ieee.{Float}
use borrow.Author.Tests.{eq-eqb, ne_eqb}
use Rattle.std.proofs.lemmas.List.{drop-replicate}
use Rattle.scalar.specs.Arith.{f0}
use Rattle.solver_body.specs.declared.BodyState.{BodyState}
use Rattle.numbers.specs.Lists.{concat}
use Rattle.numbers.proofs.Rows.{concat_last, pieces_length}
use Rattle.numbers.proofs.Writes.{next_piece}
use Rattle.card.specs.Format.{bits_at, numbers_at, records_at}
use Rattle.card.specs.Card.{body, edition_at, Card, card_of}
use Rattle.card.specs.Checks.{Refusal, refuse, first_of, card_checks, check_of}
use Rattle.card.specs.Parts.{edition_number, card_with, header_bits}
use Rattle.card.specs.Parts as parts
use Rattle.card.specs.declared.edition.Edition as named
use Rattle.card.specs.declared.edition.EditionSizes.{EditionSizes}
use Rattle.card.specs.declared.records.HeaderBits.{HeaderBits}
use Rattle.card.proofs.Cut.{records_length, last_record}
use Rattle.card.proofs.Checking.{refused_first}
use Rattle.card.proofs.Editions.{cells, header_width, card_is}
use Rattle.card.proofs.Accepted.{at_most_200}
use Rattle.loader.proofs.Accepted.{enough}
use Rattle.loader.specs.Linkage.{start_body}
use Rattle.state.specs.State.{body_numbers, joint_numbers, state_length, numbers_of, joint_numbers_of, start_joint, start_state, start_checks, answered, unless_refused, start_of, sized, sizes_of}
use Rattle.state.specs.Parts.{start_numbers}
use Rattle.state.proofs.Answers.{unless_passed, unless_refused_lem, unless_later}

-- ---- the bodies of a row

module _ (l : List ℕ) (from : ℕ) where
  abbrev done : ℕ → List Float
  done i = start_numbers (records_at body l (8 * from) i)

  pub none_done : done 0 ≡ []
  unfolding records_at start_numbers concat
  none_done = refl

  one_more : (rs : List (List ℕ)) (r : List ℕ) → start_numbers (rs ++ (r ∷ [])) ≡ start_numbers rs ++ numbers_of (start_body r)
  unfolding start_numbers
  one_more rs r =
      rw (map-append start_body rs (r ∷ []), map-append numbers_of (map start_body rs) (start_body r ∷ [])) (concat_last (map numbers_of (map start_body rs)) (numbers_of (start_body r)))

  done_length : (i : ℕ) → length (done i) ≡ body_numbers * i
  unfolding start_numbers
  done_length i =
      pieces_length numbers_of body_numbers (λ _. refl) (map start_body (records_at body l (8 * from) i)) ∙ rw (length-map (records_at body l (8 * from) i) start_body, records_length body l (8 * from) i)

  -- a turn of the loop: body i written behind those before it
  pub next_body : (i : ℕ) (s : List Float) {t u : List Float} {b : BodyState} {ns : List ℕ} → body_numbers * i + body_numbers ≤ length s
      → t ≡ done i ++ drop (body_numbers * i) s → ns ≡ numbers_at body l (8 * from + i * 752) → b ≡ start_body ns → u ≡ sets t (body_numbers * i) (numbers_of b)
      → u ≡ done (i + 1) ++ drop (body_numbers * (i + 1)) s
  next_body i s {t} {u} {b} h et en eb eu =
      let r = numbers_at body l (8 * from + i * 752) in
      let here : b ≡ start_body r = eb ∙ ap start_body en in
      let next : done (i + 1) ≡ done i ++ numbers_of (start_body r) = ap start_numbers (last_record body l (8 * from) i) ∙ one_more (records_at body l (8 * from) i) r in
      let e : body_numbers * (i + 1) ≡ body_numbers * i + body_numbers = omega arith in
      rw (eu, et, here, next, e) (next_piece (done i) s (numbers_of (start_body r)) (body_numbers * i) (done_length i) h)

-- ---- joints as they start

zeros : (js : List (List ℕ)) → concat (map joint_numbers_of (map (λ j. start_joint) js)) ≡ replicate (joint_numbers * length js) f0
unfolding concat
zeros [] = refl
zeros (j ∷ js) =
    let e : joint_numbers * suc (length js) ≡ joint_numbers + joint_numbers * length js = omega arith in
    rw (zeros js, e) (replicate-append-replicate joint_numbers (joint_numbers * length js) f0)

-- ---- any card

module _ (card : List ℕ) where
  abbrev c : Card
  c = card_of card

  abbrev own : List Refusal
  own = card_checks (edition_at card) card c

  -- 11
  abbrev later : List Float → List Refusal
  later s = refuse 11 (not (eqb (length s) (state_length (length c.bodies) (length c.joints)))) ∷ []

  pub start_refused : (s : List Float) (k : ℕ) → k ≡ check_of card → (k ≡ 0 → ⊥) → answered k s ≡ start_of card s
  unfolding start_of check_of
  start_refused s k e x = unless_refused_lem s (start_state c) (start_checks card s) k (e ∙ sym (refused_first own (later s) tt (λ z. x (e ∙ z)))) x

  pub sizes_refused : (k : ℕ) → k ≡ check_of card → (k ≡ 0 → ⊥) → sized k 0 0 ≡ sizes_of card
  unfolding sizes_of
  sizes_refused k e x = rw (← e, ne_eqb k 0 x)

  -- the card begins with edition n
  module _ (z : check_of card ≡ 0) (n : named.Edition) (en : edition_number n ≡ bits_at card 0 8) {h : HeaderBits} (eh : h ≡ header_bits (numbers_at (cells n).header card 0)) where
    card_of_lem : c ≡ card_with (cells n) card h.bodies h.joints
    unfolding header_bits
    card_of_lem = rw (eh, en) (card_is card)

    counts : (length c.bodies ≡ h.bodies) × (length c.joints ≡ h.joints)
    counts = rw card_of_lem (records_length body card _ h.bodies, records_length (cells n).joint card _ h.joints)

    -- the counts are small, and the bodies and joints are there
    pub fitting : (h.bodies ≤ 255) × (h.joints ≤ 255) × ((parts.sizes_of n).header_bytes + 94 * h.bodies ≤ length card)
    unfolding header_bits card_of
    fitting =
        let few : (h.bodies ≤ 200) × (h.joints ≤ 200) = rw (eh, en) (at_most_200 card z) in
        (omega (arith, few.0), omega (arith, few.1), rw eh (omega (arith, enough card z n en)))

    module _ (s : List Float) where
      started : unless_refused (later s) s (start_state c) ≡ start_of card s
      unfolding start_of check_of
      started = sym (unless_later s (start_state c) own (later s) tt z)

      pub length_refused : (length s ≡ state_length h.bodies h.joints → ⊥) → answered 11 s ≡ start_of card s
      length_refused x =
          let e : 11 ≡ first_of (later s) = rw (counts.0, counts.1, ne_eqb _ _ x) in
          unless_refused_lem s (start_state c) (later s) 11 e (λ k. omega arith) ∙ started

      pub written : length s ≡ state_length h.bodies h.joints → {sizes : EditionSizes} → sizes ≡ parts.sizes_of n → {s₁ s₂ : List Float} → s₁ ≡ replicate (length s) f0
          → s₂ ≡ start_numbers (records_at body card (8 * sizes.header_bytes) h.bodies) ++ drop (body_numbers * h.bodies) s₁ → answered 0 s₂ ≡ start_of card s
      unfolding start_state start_numbers
      written e {sizes} ez {s₁} {s₂} e₁ e₂ =
          let rest : drop (body_numbers * h.bodies) s₁ ≡ replicate (joint_numbers * h.joints) f0 = rw (e₁, e) (drop-replicate (body_numbers * h.bodies) _ f0 ∙ ap (λ k. replicate k f0) (omega arith)) in
          let joints : concat (map joint_numbers_of (map (λ j. start_joint) c.joints)) ≡ replicate (joint_numbers * h.joints) f0 = zeros c.joints ∙ rw counts.1 in
          let bodies : c.bodies ≡ records_at body card (8 * sizes.header_bytes) h.bodies = rw (card_of_lem, ez, header_width n) in
          let new : s₂ ≡ start_state c = e₂ ∙ rw (rest, joints, bodies) in
          let none : first_of (later s) ≡ 0 = rw (counts.0, counts.1, eq-eqb _ _ e) in
          ap (answered 0) new ∙ unless_passed s (start_state c) (later s) none ∙ started

    pub sizes_are : {k length : ℕ} → k ≡ check_of card → length ≡ state_length h.bodies h.joints
        → record { number = k; bodies = h.bodies; joints = h.joints; state = length } ≡ sizes_of card
    unfolding sizes_of
    sizes_are ek el = rw (z, ek ∙ z, counts.0, counts.1, el)
