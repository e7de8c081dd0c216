-- A search through the state's numbers, through its bodies and through its joints' marks, one by one.
use Prim.Native.Nat.{ℕ, zero, suc, ◌+◌, ◌*◌, ◌<◌}
use native.Mathlib.Numerals.{add-one}
use native.Mathlib.Omega.{arith}
use mathlib.Core.Path.{◌≡◌, refl, sym, ap, ◌∙◌}
use mathlib.Core.Bool.{Bool, true, false, not, ◌||◌, ◌&&◌, and-true, or-false, or_assoc}
use mathlib.Core.List.{List, [], ◌∷◌, ◌++◌}
use lib.ListN.{length, get_or}
use lib.Ieee.{Float, is_nan, odd, size, span, climb, of_fields, of_bits, to_bits}
use Rattle.vector.specs.declared.Vec3.{Vec3}
use Rattle.solver_body.specs.declared.BodyState.{BodyState}
use Rattle.scalar.specs.Scalar.{bits_of, is_finite}
use Rattle.numbers.specs.Lists.{all, each}
use Rattle.numbers.specs.Numbers.{vec3_in}
use Rattle.numbers.proofs.Rows.{all_append}
use Rattle.card.specs.Checks.{any}
use Rattle.state.specs.declared.places.JointState.{JointState}
use Rattle.state.specs.State.{body_numbers, body_from, body_at, mark_at, mark_of, state_of, start_joint, far_away, bad_mark, bad_marks}
use Rattle.state.specs.Parts.{any_far}
use Rattle.state.proofs.Rows.{mark_read}

module _ {A : Type 0} (p : A → Bool) where
  any_append : (l m : List A) → any p (l ++ m) ≡ (any p l || any p m)
  unfolding any
  any_append [] m = refl
  any_append (a ∷ l) m = rw (any_append l m) (sym (or_assoc (p a) (any p l) (any p m)))

  -- one of a row more
  pub any_each : (v : ℕ → A) (n : ℕ) → any p (each v (n + 1)) ≡ (any p (each v n) || p (v n))
  unfolding any each
  any_each v n = rw (add-one, any_append (each v n) (v n ∷ []), or-false)

  any_none : (v : ℕ → A) (n : ℕ) → ((i : ℕ) → i < n → p (v i) ≡ false) → any p (each v n) ≡ false
  unfolding any each
  any_none v zero f = refl
  any_none v (suc n) f = any_append (each v n) (v n ∷ []) ∙ rw (any_none v n (λ i h. f i (omega arith)), f n (omega arith))

either_not : (a b : Bool) → (not a || not b) ≡ not (a && b)
either_not true b = refl
either_not false b = refl

-- one number more
pub next_number : (ys : List Float) (x : Float) {bad after : Bool} → bad ≡ not (all is_finite ys) → after ≡ (bad || not (is_finite x)) → after ≡ not (all is_finite (ys ++ (x ∷ [])))
unfolding all
next_number ys x e f = f ∙ rw (e, all_append is_finite ys (x ∷ []), and-true) (either_not (all is_finite ys) (is_finite x))

module _ (s : List Float) where
  pub none_far : false ≡ any_far 0 s
  unfolding any_far any each
  none_far = refl

  pub next_far : (i : ℕ) {found far : Bool} {p : Vec3} → found ≡ any_far i s → p ≡ vec3_in s (body_numbers * i) → far ≡ far_away p
      → (found || far) ≡ any_far (i + 1) s
  unfolding any_far body_from
  next_far i e ep ef = rw (e, ef, ep) (sym (any_each (λ b. far_away b.position) (body_at s) i))

  pub no_mark : (n : ℕ) → false ≡ bad_marks n 0 s
  unfolding bad_marks any each
  no_mark n = refl

  pub next_mark : (n j : ℕ) {found bad : Bool} → found ≡ bad_marks n j s → bad ≡ bad_mark (mark_at n s j) → (found || bad) ≡ bad_marks n (j + 1) s
  unfolding bad_marks
  next_mark n j e eb = rw (e, eb) (sym (any_each bad_mark (mark_at n s) j))

-- ---- marks that are written

mark_good : (broken : Bool) → bad_mark (mark_of broken) ≡ false
unfolding bad_mark bits_of is_nan to_bits of_bits of_fields odd size span climb
mark_good true = refl
mark_good false = refl

pub marks_good : (bs : List BodyState) (ks : List JointState) → bad_marks (length bs) (length ks) (state_of bs ks) ≡ false
unfolding bad_marks
marks_good bs ks =
    any_none bad_mark (mark_at (length bs) (state_of bs ks)) (length ks)
    (λ j h. ap bad_mark (mark_read bs ks j start_joint h) ∙ mark_good (get_or ks j start_joint).broken)
