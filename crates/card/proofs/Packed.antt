-- The bits of a part of the card: cut in two, bytes, words, fields of a word.
use Prim.Native.Nat.{ℕ, zero, suc, ◌+◌, ◌*◌, ◌-◌, ◌/◌, ◌%◌, ◌^◌, ◌<◌}
use native.Mathlib.Nat.{add-zero, add-suc, add_assoc, mul_assoc, pow-suc, mul-add-div_right, div-eq_of_lt, mod-eq_of_lt, mul-add-mod_self_right, one-le-pow}
use native.Mathlib.Omega.{arith}
use mathlib.Core.Path.{◌≡◌, refl, sym, ◌∙◌}
use mathlib.Core.List.{List}
use lib.ListN.{get_or}
use Rattle.card.specs.Format.{bits_at}

eight_bits : (b : ℕ) → b < 256 → (((((((0 * 2 + b / 128 % 2) * 2 + b / 64 % 2) * 2 + b / 32 % 2) * 2 + b / 16 % 2) * 2 + b / 8 % 2) * 2 + b / 4 % 2) * 2 + b / 2 % 2) * 2 + b / 1 % 2 ≡ b
eight_bits b h =
    let s0 : 0 * 2 + b / 128 % 2 ≡ b / 128 = omega arith in
    let s1 : b / 128 * 2 + b / 64 % 2 ≡ b / 64 = omega arith in
    let s2 : b / 64 * 2 + b / 32 % 2 ≡ b / 32 = omega arith in
    let s3 : b / 32 * 2 + b / 16 % 2 ≡ b / 16 = omega arith in
    let s4 : b / 16 * 2 + b / 8 % 2 ≡ b / 8 = omega arith in
    let s5 : b / 8 * 2 + b / 4 % 2 ≡ b / 4 = omega arith in
    let s6 : b / 4 * 2 + b / 2 % 2 ≡ b / 2 = omega arith in
    let s7 : b / 2 * 2 + b / 1 % 2 ≡ b / 1 = omega arith in
    rw (s0, s1, s2, s3, s4, s5, s6, s7) (omega arith)

module _ (l : List ℕ) where
  bit : ℕ → ℕ
  bit p = get_or l (p / 8) 0 / 2 ^ (7 - p % 8) % 2

  next : (p n : ℕ) → bits_at l p (suc n) ≡ bits_at l p n * 2 + bit (p + n)
  unfolding bits_at bit
  next p n = refl

  pub below : (p n : ℕ) → bits_at l p n < 2 ^ n
  unfolding bits_at
  below p zero = omega arith
  below p (suc n) = omega (arith, below p n)

  pub split : (p m n : ℕ) → bits_at l p (m + n) ≡ bits_at l p m * 2 ^ n + bits_at l (p + m) n
  unfolding bits_at
  split p m zero = rw add-zero (omega arith)
  split p m (suc n) =
      let a = bits_at l p m in
      rw (add-suc, add_assoc p m n, split p m n, pow-suc) (omega (arith, mul_assoc a (2 ^ n) 2))

  bit_of_lem : (at b k : ℕ) → b ≡ get_or l at 0 → k < 8 → bit (8 * at + k) ≡ b / 2 ^ (7 - k) % 2
  unfolding bit
  bit_of_lem at b k e h =
      let d : (8 * at + k) / 8 ≡ at = omega arith in
      let m : (8 * at + k) % 8 ≡ k = omega arith in
      rw (d, m, e)

  eight : (at : ℕ) → bits_at l (8 * at) 8 ≡ (((((((0 * 2 + bit (8 * at + 0)) * 2 + bit (8 * at + 1)) * 2 + bit (8 * at + 2)) * 2 + bit (8 * at + 3)) * 2 + bit (8 * at + 4)) * 2 + bit (8 * at + 5)) * 2 + bit (8 * at + 6)) * 2 + bit (8 * at + 7)
  unfolding bits_at bit
  eight at = refl

  -- a byte is the number that its eight bits make
  pub byte : (at b : ℕ) → b ≡ get_or l at 0 → b < 256 → b ≡ bits_at l (8 * at) 8
  byte at b e h =
      let q0 : bit (8 * at + 0) ≡ b / 128 % 2 = bit_of_lem at b 0 e (omega arith) in
      let q1 : bit (8 * at + 1) ≡ b / 64 % 2 = bit_of_lem at b 1 e (omega arith) in
      let q2 : bit (8 * at + 2) ≡ b / 32 % 2 = bit_of_lem at b 2 e (omega arith) in
      let q3 : bit (8 * at + 3) ≡ b / 16 % 2 = bit_of_lem at b 3 e (omega arith) in
      let q4 : bit (8 * at + 4) ≡ b / 8 % 2 = bit_of_lem at b 4 e (omega arith) in
      let q5 : bit (8 * at + 5) ≡ b / 4 % 2 = bit_of_lem at b 5 e (omega arith) in
      let q6 : bit (8 * at + 6) ≡ b / 2 % 2 = bit_of_lem at b 6 e (omega arith) in
      let q7 : bit (8 * at + 7) ≡ b / 1 % 2 = bit_of_lem at b 7 e (omega arith) in
      rw (eight at, q0, q1, q2, q3, q4, q5, q6, q7) (sym (eight_bits b h))

  -- a byte behind n others
  pub next_byte : (at n : ℕ) {a b : ℕ} → a ≡ bits_at l (8 * at) (8 * n) → b ≡ bits_at l (8 * (at + n)) 8
      → (a * 256 + b ≡ bits_at l (8 * at) (8 * n + 8)) × (a < 2 ^ (8 * n)) × (b < 256)
  next_byte at n {a} {b} ea eb =
      let e : 8 * at + 8 * n ≡ 8 * (at + n) = omega arith in
      (rw (ea, eb, split (8 * at) (8 * n) 8, e) refl, rw ea (below (8 * at) (8 * n)), rw eb (below (8 * (at + n)) 8))

  -- the n bits behind the first m of a word w, with k more behind them
  pub field : {w : ℕ} (p m n k : ℕ) → w ≡ bits_at l p (m + n + k) → w / 2 ^ k % 2 ^ n ≡ bits_at l (p + m) n
  field {w} p m n k e =
      let c = below (p + (m + n)) k in
      let d : w / 2 ^ k ≡ bits_at l p (m + n) =
      rw (e, split p (m + n) k) (mul-add-div_right (one-le-pow k 2 (omega arith)) (bits_at l p (m + n)) (bits_at l (p + (m + n)) k) ∙ rw (div-eq_of_lt c) (omega arith)) in
      rw (d, split p m n) (mul-add-mod_self_right (bits_at l p m) (2 ^ n) (bits_at l (p + m) n) ∙ mod-eq_of_lt (below (p + m) n))
