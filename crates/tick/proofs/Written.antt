-- Rows of numbers that are written one behind the other.
use Prim.Native.Nat.{ℕ, ◌+◌, ◌*◌, ◌≤◌}
use native.Mathlib.Numerals.{add-one}
use native.Mathlib.Nat.{mul-zero, add-zero}
use native.Mathlib.Omega.{arith}
use mathlib.Core.Path.{◌≡◌, sym, ◌∙◌}
use mathlib.Core.List.{List, [], ◌∷◌, ◌++◌, map, map-append, append-nil, append_assoc}
use lib.ListN.{length, take, drop, take-append-drop, length-append, length-take}
use lib.Seq.{sets, drop_at}
use lib.Ieee.{Float}
use Rattle.std.proofs.lemmas.List.{drop_all}
use Rattle.numbers.specs.Lists.{concat, each}
use Rattle.numbers.proofs.Rows.{each_length, concat_last, pieces_length}
use Rattle.numbers.proofs.Writes.{next_piece}

-- of k numbers each, from place p of l on
module _ {A : Type 0} (f : A → List Float) (k : ℕ) (same : (a : A) → length (f a) ≡ k) (v : ℕ → A) (p : ℕ) (l : List Float) where
  abbrev pub rows : ℕ → List Float
  rows i = concat (map f (each v i))

  abbrev front : ℕ → List Float
  front i = take p l ++ rows i

  abbrev pub Written : ℕ → List Float → Type 0
  Written i t = t ≡ front i ++ drop (p + k * i) l

  front_length : (i : ℕ) → p + k * i ≤ length l → length (front i) ≡ p + k * i
  front_length i room = simp (length-append, length-take, pieces_length f k same (each v i), each_length v i) (omega arith)

  one_more : (i : ℕ) → rows (i + 1) ≡ rows i ++ f (v i)
  unfolding each
  one_more i = rw (add-one, map-append f (each v i) (v i ∷ [])) (concat_last (map f (each v i)) (f (v i)))

  pub none_written : Written 0 l
  unfolding each concat
  none_written = rw (mul-zero, add-zero, append-nil) (sym (take-append-drop p l))

  module _ (i : ℕ) {t : List Float} (w : Written i t) where
    -- the next
    pub row_written : p + k * i + k ≤ length l → {at : ℕ} → at ≡ p + k * i → {u : List Float} → u ≡ sets t at (f (v i)) → Written (i + 1) u
    row_written room ea e =
        let next : p + k * (i + 1) ≡ p + k * i + k = omega arith in
        e ∙ rw (w, ea, next, one_more i, ← append_assoc) (rw (same (v i)) at (next_piece (front i) l (f (v i)) (p + k * i) (front_length i (omega arith)) (rw (same (v i)) room)))

    -- what stands behind is as it was
    pub rest_kept : p + k * i ≤ length l → drop (p + k * i) t ≡ drop (p + k * i) l
    rest_kept room = rw w (drop_at (front i) (drop (p + k * i) l) (p + k * i) (front_length i room))

    -- the rows go on to the end
    pub rows_end : length l ≡ p + k * i → drop p t ≡ rows i
    rows_end e = rw (w, append_assoc, drop_all (p + k * i) l (omega arith), append-nil) (drop_at (take p l) (rows i) p (rw length-take (omega arith)))
