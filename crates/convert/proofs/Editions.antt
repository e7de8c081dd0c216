-- A row of the table of editions by the widths of its cells: its records are whole bytes, and its limits have room in them.
use Prim.Native.Nat.{ℕ, ◌*◌, ◌^◌, ◌≤◌, ◌<◌}
use native.Mathlib.Omega.{arith}
use mathlib.Core.Path.{◌≡◌, refl}
use mathlib.Core.Bool.{false, ◌||◌}
use mathlib.Core.List.{[]}
use lib.ListN.{length}
use lib.Dec.{eqb, ltb}
use Rattle.card.specs.Format.{width_of}
use Rattle.card.specs.Card.{header, joint, Edition, edition, editions, edition_of}
use Rattle.card.specs.declared.edition.Edition as named
use Rattle.card.specs.declared.edition.Edition.TheVariants.{One, Two, Three}
use Rattle.card.specs.Parts.{edition_number, sizes_of}

pub record Row (n : ℕ) : Type 0 where
  -- the widths of the counts, the rate and the zero bits of a header, of a joint's body numbers and of its zero bits
  pub counts : ℕ
  pub rate : ℕ
  pub zeros : ℕ
  pub numbers : ℕ
  pub spare : ℕ
  pub most : ℕ
  pub fastest : ℕ
  -- of the header
  pub bytes : ℕ
  pub listed : edition_of n ≡ edition (header counts rate zeros) (joint numbers spare []) most fastest
  pub known : (eqb n 0 || ltb (length editions) n) ≡ false
  pub byte : n < 256
  pub whole_header : width_of (header counts rate zeros) ≡ 8 * bytes
  pub whole_joint : width_of (joint numbers spare []) ≡ 8 * 123
  pub shortest : 12 ≤ bytes
  pub counted : most < 2 ^ counts
  pub rated : fastest < 2 ^ rate
  pub numbered : most ≤ 2 ^ numbers

abbrev pub edition_in : {n : ℕ} → Row n → Edition
edition_in r = edition (header r.counts r.rate r.zeros) (joint r.numbers r.spare []) r.most r.fastest

row_of : {n : ℕ} (counts rate zeros numbers spare most fastest bytes : ℕ) → edition_of n ≡ edition (header counts rate zeros) (joint numbers spare []) most fastest → (eqb n 0 || ltb (length editions) n) ≡ false
    → (width_of (header counts rate zeros) ≡ 8 * bytes) × (width_of (joint numbers spare []) ≡ 8 * 123)
    → (n < 256) × (12 ≤ bytes) × (most < 2 ^ counts) × (fastest < 2 ^ rate) × (most ≤ 2 ^ numbers) → Row n
row_of counts rate zeros numbers spare most fastest bytes listed known whole room =
    record {
      counts = counts;
      rate = rate;
      zeros = zeros;
      numbers = numbers;
      spare = spare;
      most = most;
      fastest = fastest;
      bytes = bytes;
      listed = listed;
      known = known;
      byte = room.0;
      whole_header = whole.0;
      whole_joint = whole.1;
      shortest = room.1;
      counted = room.2;
      rated = room.3;
      numbered = room.4;
    }

pub row : (e : named.Edition) → edition_number e ≤ 2 → Row (edition_number e)
unfolding edition_of
row One h = row_of 6 10 2 5 7 32 1000 12 refl refl (refl, refl) (omega arith)
row Two h = row_of 8 16 24 8 1 200 4000 16 refl refl (refl, refl) (omega arith)
row Three h = absurd (omega (arith, h))

pub size_is : (e : named.Edition) (h : edition_number e ≤ 2) → (sizes_of e).header_bytes ≡ (row e h).bytes
unfolding sizes_of
size_is e h = rw ((row e h).listed, (row e h).whole_header) (omega arith)

module _ {n : ℕ} (r : Row n) where
  pub width_is : width_of (edition_of n).header ≡ 8 * r.bytes
  width_is = rw r.listed r.whole_header

  pub joint_width_is : width_of (edition_of n).joint ≡ 8 * 123
  joint_width_is = rw r.listed r.whole_joint
