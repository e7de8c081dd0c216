-- The records of a row, as the chunks of its bytes.
use Rattle.std.proofs.Common.{ℕ, zero, suc, ◌≡◌, ◌+◌, ◌*◌, ◌≤◌, ◌<◌, List, [], ◌∷◌, ◌++◌, length, take, drop, arith, refl, sym, ap, subst, ◌∙◌, length-append, length-drop, length-take, map, None}
use Rattle.std.proofs.lemmas.List.{take_at, drop_at, take-take, drop-take, drop-drop}
use native.Mathlib.Nat.{mul-suc}
use denote.Ref.{Bor}
use Rattle.std.specs.Iterator.{Yields, AlwaysYields, CallableAtEachTurn}
use Rattle.std.specs.Slice.Iter.{chunks_exact_rest, chunks_exact_size, chunks_exact_steps}
use Rattle.std.proofs.lemmas.Fn.{serves_by}
use Rattle.std.proofs.lemmas.Iterator.{YieldsList}
use Rattle.std.proofs.lemmas.Iterator.Consumers.{YieldsList-at, YieldsList-end}
use Rattle.card.specs.Format.{Cell, width_of, numbers_at, records_at}
use Rattle.card.proofs.Cut.{numbers_part}

-- the first n of n + m elements, and the others
cut : (n m : ℕ) (d a b : List ℕ) → take (n + m) d ≡ a ++ b → length a ≡ n → (take n d ≡ a) × (take m (drop n d) ≡ b)
cut n m d a b e long = (sym (take-take n (n + m) d (omega arith)) ∙ ap (take n) e ∙ take_at a b n long, sym (drop-take n m d) ∙ ap (drop n) e ∙ drop_at a b n long)

same_size : (xs : List (Bor (List ℕ))) (s t : _) → Yields chunks_exact_steps s xs t → chunks_exact_size t ≡ chunks_exact_size s
same_size [] s t y = ap chunks_exact_size (sym y)
same_size (x ∷ xs) s t y = same_size xs y.0 t y.2 ∙ y.1.0

-- what a closure that stays as it is may be asked of each chunk
pub asked : {F : Type 0} {R : F → Bor (List ℕ) → F → Type 0} {Q : F → Bor (List ℕ) → Type 0} {s : _} {f : F} → ((x : Bor (List ℕ)) (q : F) → R f x q → q ≡ f)
    → ((x : Bor (List ℕ)) → length x.now ≡ chunks_exact_size s → Q f x) → CallableAtEachTurn chunks_exact_steps R Q s f
asked {F} {R} {Q} {s} {f} stays h =
    serves_by R (λ xs q. q ≡ f) (λ xs q x w j r. stays x w (subst (λ k. R k x w) j r)) chunks_exact_steps Q s f refl
    (λ xs t q x u y e j. subst (λ k. Q k x) (sym j) (h x (e.1.1 ∙ same_size xs s t y)))

module _ (cs : List Cell) (n : ℕ) (whole : width_of cs ≡ 8 * n) (some : 0 < n) (l : List ℕ) where
  rows : (at count : ℕ) (s : _) → at + n * count ≤ length l → chunks_exact_size s ≡ n → chunks_exact_rest s ≡ take (n * count) (drop at l)
      → AlwaysYields chunks_exact_steps (λ x. numbers_at cs x.now 0) s (records_at cs l (8 * at) count)
  unfolding records_at
  rows at zero s fits size rest = λ x t step. absurd (omega (arith, ap length rest, length-take (n * 0) (drop at l), ap length step.1.0, length-append x.now (chunks_exact_rest t)))
  rows at (suc k) s fits size rest =
      let room = length-take (n * suc k) (drop at l) in
      let more = mul-suc n k in (
        (λ t step. omega (arith, step.1.0, ap length rest, room, length-drop at l, more)),
        λ x t step.
            let front = cut n (n * k) (drop at l) x.now (chunks_exact_rest t) (ap (λ m. take m (drop at l)) (omega (arith, more)) ∙ sym rest ∙ step.1.0) (step.1.1 ∙ size) in
            let next : 8 * at + width_of cs ≡ 8 * (at + n) = omega (arith, whole) in (
              sym (ap (λ p. numbers_at cs p 0) front.0) ∙ numbers_part l at n cs (omega (arith, whole)),
              rw next (rows (at + n) k t (omega (arith, more)) (step.0 ∙ size) (sym front.1 ∙ ap (take (n * k)) (drop-drop n at l))),
            ),
      )

  module _ (at count : ℕ) {m : ℕ} {s : _} (fits : at + n * count ≤ length l) (size : chunks_exact_size s ≡ n) (rest : chunks_exact_rest s ≡ take m (drop at l)) (e : m ≡ n * count) where
    -- the chunks of the bytes from `at` on
    pub chunks : YieldsList chunks_exact_steps (λ x. numbers_at cs x.now 0) s (records_at cs l (8 * at) count)
    chunks = record { runs = rows at count s fits size (rest ∙ ap (λ k. take k (drop at l)) e) }

    -- where a `for` over them ends
    pub all_read : {i : _} → i ≡ s → (xs : _) (t u : _) {r : _} → Yields chunks_exact_steps i xs t → r ≡ None → chunks_exact_steps t r u → map (λ x. numbers_at cs x.now 0) xs ≡ records_at cs l (8 * at) count
    all_read is xs t u by none step = (YieldsList-end (YieldsList-at is chunks) xs t by _ u none step).0
