-- By one test over the whole table, which antt computes.
use mathlib.Core.Bool.{Bool}
use mathlib.Core.List.{List}
use mathlib.Core.Path.{◌≡◌}
use Prim.Native.Nat.{ℕ, ◌/◌, ◌^◌, ◌≤◌, ◌<◌}
use borrow.Author.Rules.{rules}
use lib.Dec.{T, leb, leb→le, eqb, eqb→eq}
use lib.ListN.{length, get_or}
use Rattle.series.proofs.TableTest.{all_from, each}
use Rattle.root.specs.Start.{starting_values}
use Rattle.root.proofs.curve.Goals as goal

-- v has 64 digits, and begins with the starting value at place i
abbrev long : ℕ → ℕ → Bool
long i v = leb (2 ^ 63) v

abbrev begins : ℕ → ℕ → Bool
begins i v = eqb (v / 2 ^ 33) (get_or starting_values i 0)

low : (l : List ℕ) (i : ℕ) → T (all_from long l 0) → i < length l → 2 ^ 63 ≤ get_or l i 0
low l i t h = leb→le (2 ^ 63) (get_or l i 0) (each long l t i h)

start : (l : List ℕ) (i : ℕ) → T (all_from begins l 0) → i < length l → get_or l i 0 / 2 ^ 33 ≡ get_or starting_values i 0
start l i t h = eqb→eq (get_or l i 0 / 2 ^ 33) (get_or starting_values i 0) (each begins l t i h)

pub returns : goal.returns
returns c = search (rules, low, start)
