-- Lists that are written piece by piece.
use Prim.Native.Nat.{ℕ, ◌+◌, ◌≤◌}
use native.Mathlib.Omega.{arith}
use mathlib.Core.Path.{◌≡◌, ◌∙◌}
use mathlib.Core.List.{List, ◌++◌}
use lib.ListN.{length, drop, length-append, length-drop}
use lib.Seq.{sets, sets-eq, take_at, drop-append-add, drop-drop}

module _ {A : Type 0} where
  -- the next piece of a list whose first k elements are written
  pub next_piece : (done l piece : List A) (k : ℕ) → length done ≡ k → k + length piece ≤ length l
      → sets (done ++ drop k l) k piece ≡ (done ++ piece) ++ drop (k + length piece) l
  next_piece done l piece k e h =
      let whole : length (done ++ drop k l) ≡ length l = simp (length-append, length-drop) (omega arith) in
      let room : k + length piece ≤ length (done ++ drop k l) = omega arith in
      let rest : drop (k + length piece) (done ++ drop k l) ≡ drop (k + length piece) l =
      rw (← e) (drop-append-add done (drop (length done) l) (length piece) ∙ drop-drop (length piece) (length done) l) in
      sets-eq piece (done ++ drop k l) k room ∙ rw (take_at done (drop k l) k e, rest)
