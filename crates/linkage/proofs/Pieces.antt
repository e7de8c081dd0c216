-- Laws of a line's pieces: one number or one body more.
use Prim.Native.Nat.{ℕ, ◌+◌, ◌-◌, ◌*◌, ◌≤◌, ◌<◌}
use native.Mathlib.Numerals.{add-one}
use native.Mathlib.Omega.{arith}
use mathlib.Core.Path.{◌≡◌, sym}
use mathlib.Core.List.{List, ◌++◌, map, map-append, append_assoc, append-nil}
use lib.Ieee.{Float, nan}
use lib.ListN.{length, take, drop, get_or}
use lib.Seq.{take-suc}
use Rattle.std.specs.Fmt.{decimal}
use Rattle.std.proofs.lemmas.Fmt.{length-decimal-le}
use Rattle.numbers.specs.Lists.{concat, each}
use Rattle.numbers.proofs.Rows.{concat_last, part_add, numbers3_in, numbers4_in}
use Rattle.state.specs.State.{body_numbers, body_from, body_at}
use Rattle.linkage.specs.Lines.{hex_of, line_of, pose_of, lines_of}

pub short_tick : (n : ℕ) → n < 100000 → length (decimal n) ≤ 5
short_tick n h = length-decimal-le 5 n (omega arith) h (omega arith)

pub short_body : (n : ℕ) → n < 1000 → length (decimal n) ≤ 3
short_body n h = length-decimal-le 3 n (omega arith) h (omega arith)

module _ (out : List ℕ) (xs : List Float) where
  pub next_number : (i : ℕ) → i < length xs
      → out ++ concat (map hex_of (take (i + 1) xs)) ≡ (out ++ concat (map hex_of (take i xs))) ++ hex_of (get_or xs i nan)
  next_number i h =
      rw (add-one, take-suc xs i nan h, map-append, concat_last (map hex_of (take i xs)) (hex_of (get_or xs i nan)))
      (sym (append_assoc out (concat (map hex_of (take i xs))) (hex_of (get_or xs i nan))))

pose_is : (s : List Float) (i n : ℕ) → n ≡ 7 → body_numbers * i + 7 ≤ length s → take n (drop (body_numbers * i) s) ≡ pose_of (body_at s i)
unfolding body_from
pose_is s i n e h =
    let at = body_numbers * i in
    rw (e, part_add s at 3 4, numbers3_in s at (omega arith), numbers4_in s (at + 3) (omega arith))

module _ (out : List ℕ) (tick : ℕ) (s : List Float) where
  pub no_lines : out ++ lines_of tick 0 s ≡ out
  unfolding lines_of concat each
  no_lines = append-nil out

  pub more_lines : (i : ℕ) → body_numbers * i + 7 ≤ length s
      → out ++ lines_of tick (i + 1) s ≡ (out ++ lines_of tick i s) ++ line_of tick i (take (body_numbers * i + 7 - body_numbers * i) (drop (body_numbers * i) s))
  unfolding lines_of each
  more_lines i h =
      let line = line_of tick i (pose_of (body_at s i)) in
      rw (pose_is s i (body_numbers * i + 7 - body_numbers * i) (omega arith) h, add-one, concat_last (each (λ j. line_of tick j (pose_of (body_at s j))) i) line)
      (sym (append_assoc out (lines_of tick i s) line))
