-- Bytes of a number, and a record packed and read again.
use Prim.Native.Nat.{ℕ, zero, suc, ◌+◌, ◌*◌, ◌/◌, ◌%◌, ◌^◌, ◌≤◌, ◌<◌}
use native.Mathlib.Nat.{mul-suc, mul_assoc, pow-suc, pow-succ', mul-add-div_right, div-div-eq-div-mul, one-le-pow, suc-add, zero-add, mul_comm, mul-zero, mod-eq_of_lt, mod-one, div-one}
use native.Mathlib.Omega.{arith}
use mathlib.Core.Path.{◌≡◌, refl, sym, ap, ap₂, ◌∙◌}
use mathlib.Core.List.{List, [], ◌∷◌, ◌++◌, map, append_assoc}
use lib.ListN.{length, get_or, take, drop}
use lib.Arith.{digits_lt, digits_div, digits_mod, mod-mul}
use lib.Pow.{pow-add}
use lib.Seq.{drop-cons, take-add, take_all, take_at, drop_at, drop-drop}
use Rattle.std.specs.Int.{bytes_high_first}
use Rattle.numbers.specs.Lists.{concat}
use Rattle.card.specs.Format.{bits_at, Cell, width_of, numbers_at, records_at}
use Rattle.card.proofs.Packed.{below, split, byte}
use Rattle.card.proofs.Cut.{numbers_part}
use Rattle.convert.specs.Convert.{packed, bytes_of, record_bytes}

-- ---- bytes

256_positive : (n : ℕ) → 0 < 256 ^ n
256_positive n = one-le-pow n 256 (omega arith)

pub power : (n : ℕ) → 2 ^ (8 * n) ≡ 256 ^ n
power zero = refl
power (suc n) = rw (mul-suc 8 n, pow-add 2 (8 * n) 8, power n, pow-suc 256 n)

pub bytes_length : (n x : ℕ) → length (bytes_of n x) ≡ n
unfolding bytes_of
bytes_length zero x = refl
bytes_length (suc n) x = ap suc (bytes_length n x)

-- as std writes them
pub high_first : (n x : ℕ) → bytes_high_first n x ≡ bytes_of n x
unfolding bytes_of
high_first zero x = refl
high_first (suc zero) x = rw div-one refl
high_first (suc (suc n)) x = ap (λ l. x / 256 ^ suc n % 256 ∷ l) (high_first (suc n) x)

-- bytes above the last n are not among them
bytes_low : (n x y : ℕ) → bytes_of n (x * 256 ^ n + y) ≡ bytes_of n y
unfolding bytes_of
bytes_low zero x y = refl
bytes_low (suc n) x y =
    let e : x * 256 ^ suc n ≡ x * 256 * 256 ^ n = rw (pow-succ' 256 n) (sym (mul_assoc x 256 (256 ^ n))) in
    let first : (x * 256 * 256 ^ n + y) / 256 ^ n % 256 ≡ y / 256 ^ n % 256 = rw (mul-add-div_right (256_positive n) (x * 256) y) (omega arith) in
    rw e (ap₂ ◌∷◌ first (bytes_low n (x * 256) y))

pub bytes_append : (m n x y : ℕ) → y < 256 ^ n → bytes_of (m + n) (x * 256 ^ n + y) ≡ bytes_of m x ++ bytes_of n y
unfolding bytes_of
bytes_append zero n x y h = rw zero-add (bytes_low n x y)
bytes_append (suc m) n x y h =
    let above : (x * 256 ^ n + y) / 256 ^ (m + n) ≡ x / 256 ^ m =
    rw (pow-add 256 m n, mul_comm (256 ^ m) (256 ^ n), ← (div-div-eq-div-mul (x * 256 ^ n + y) (256 ^ n) (256 ^ m)), digits_div x h) in
    rw suc-add (ap₂ ◌∷◌ (ap (λ k. k % 256) above) (bytes_append m n x y h))

-- ---- what is read of a card is packed to the same bytes

module _ (l : List ℕ) where
  pub packed_bits : (cs : List Cell) (p : ℕ) → packed cs (numbers_at cs l p) ≡ bits_at l p (width_of cs)
  unfolding packed numbers_at bits_at
  packed_bits [] p = refl
  packed_bits (c ∷ cs) p = rw (split l p c.width (width_of cs), packed_bits cs (p + c.width))

  module _ (small : (i : ℕ) → get_or l i 0 < 256) where
    bytes_are : (at n : ℕ) → at + n ≤ length l → bytes_of n (bits_at l (8 * at) (8 * n)) ≡ take n (drop at l)
    unfolding bytes_of
    bytes_are at zero h = refl
    bytes_are at (suc n) h =
        let rest = bits_at l (8 * suc at) (8 * n) in
        let low : rest < 256 ^ n = rw (← (power n)) (below l (8 * suc at) (8 * n)) in
        let next : 8 * at + 8 ≡ 8 * suc at = omega arith in
        let width : 8 * suc n ≡ 8 + 8 * n = omega arith in
        let here = byte l at (get_or l at 0) refl (small at) in
        rw (width, split l (8 * at) 8 (8 * n), next, ← here, power n, digits_div (get_or l at 0) low, drop-cons l at 0 (omega arith), bytes_low n (get_or l at 0) rest, bytes_are (suc at) n (omega arith))
        (ap (λ b. b ∷ take n (drop (suc at) l)) (mod-eq_of_lt (small at)))

    pub record_bytes_lem : (cs : List Cell) (n at : ℕ) → width_of cs ≡ 8 * n → at + n ≤ length l → record_bytes cs (numbers_at cs l (8 * at)) ≡ take n (drop at l)
    record_bytes_lem cs n at whole h =
        let size : 8 * n / 8 ≡ n = omega arith in
        rw (packed_bits cs (8 * at), whole, size) (bytes_are at n h)

    pub records_bytes : (cs : List Cell) (n at m : ℕ) → width_of cs ≡ 8 * n → at + n * m ≤ length l
        → concat (map (record_bytes cs) (records_at cs l (8 * at) m)) ≡ take (n * m) (drop at l)
    unfolding records_at concat
    records_bytes cs n at zero whole h = rw mul-zero
    records_bytes cs n at (suc m) whole h =
        let next : 8 * at + width_of cs ≡ 8 * (at + n) = omega arith in
        let size : n * suc m ≡ n + n * m = omega arith in
        rw (next, size, record_bytes_lem cs n at whole (omega arith), records_bytes cs n (at + n) m whole (omega arith), ← (drop-drop n at l)) (sym (take-add n (n * m) (drop at l)))

-- ---- what is packed is read again

-- as many numbers as cells, each of its cell's width
abbrev pub Fits : List Cell → List ℕ → Type 0
Fits [] [] = Unit
Fits [] (n ∷ ns) = ⊥
Fits (c ∷ cs) [] = ⊥
Fits (c ∷ cs) (n ∷ ns) = (n < 2 ^ c.width) × Fits cs ns

pub read_fits : (cs : List Cell) (l : List ℕ) (p : ℕ) → Fits cs (numbers_at cs l p)
unfolding numbers_at
read_fits [] l p = tt
read_fits (c ∷ cs) l p = (below l p c.width, read_fits cs l (p + c.width))

pub packed_below : (cs : List Cell) (ns : List ℕ) → Fits cs ns → packed cs ns < 2 ^ width_of cs
unfolding packed
packed_below [] [] f = omega arith
packed_below [] (n ∷ ns) f = absurd f
packed_below (c ∷ cs) [] f = absurd f
packed_below (c ∷ cs) (n ∷ ns) f = rw (pow-add 2 c.width (width_of cs)) (digits_lt f.0 (packed_below cs ns f.1))

unpacked : (cs : List Cell) (ns l : List ℕ) (p : ℕ) → Fits cs ns → bits_at l p (width_of cs) ≡ packed cs ns → numbers_at cs l p ≡ ns
unfolding packed numbers_at
unpacked [] [] l p f e = refl
unpacked [] (n ∷ ns) l p f e = absurd f
unpacked (c ∷ cs) [] l p f e = absurd f
unpacked (c ∷ cs) (n ∷ ns) l p f e =
    let w = width_of cs in
    let low = below l (p + c.width) w in
    let both = sym (split l p c.width w) ∙ e in
    let rest = packed_below cs ns f.1 in
    ap₂ ◌∷◌ (sym (digits_div (bits_at l p c.width) low) ∙ ap (λ x. x / 2 ^ w) both ∙ digits_div n rest)
    (unpacked cs ns l (p + c.width) f.1 (sym (digits_mod (bits_at l p c.width) low) ∙ ap (λ x. x % 2 ^ w) both ∙ digits_mod n rest))

bytes_small : (n x i : ℕ) → get_or (bytes_of n x) i 0 < 256
unfolding bytes_of
bytes_small zero x i = omega arith
bytes_small (suc n) x zero = omega arith
bytes_small (suc n) x (suc i) = bytes_small n x i

same_bytes : (n x y : ℕ) → bytes_of n x ≡ bytes_of n y → x % 256 ^ n ≡ y % 256 ^ n
unfolding bytes_of
same_bytes zero x y e = rw (mod-one x, mod-one y)
same_bytes (suc n) x y e =
    let first : x / 256 ^ n % 256 ≡ y / 256 ^ n % 256 = cc in
    let rest : bytes_of n x ≡ bytes_of n y = cc in
    rw (pow-succ' 256 n, mod-mul x {m = 256} {c = 256 ^ n} (omega arith) (256_positive n), mod-mul y {m = 256} {c = 256 ^ n} (omega arith) (256_positive n), first, same_bytes n x y rest)

bits_of_bytes : (n x : ℕ) → x < 256 ^ n → bits_at (bytes_of n x) 0 (8 * n) ≡ x
bits_of_bytes n x h =
    let l = bytes_of n x in
    let same = bytes_are l (bytes_small n x) 0 n (rw (bytes_length n x) (omega arith)) ∙ take_all n l (rw (bytes_length n x) (omega arith)) in
    let low : bits_at l 0 (8 * n) < 256 ^ n = rw (← (power n)) (below l 0 (8 * n)) in
    sym (mod-eq_of_lt low) ∙ same_bytes n (bits_at l 0 (8 * n)) x same ∙ mod-eq_of_lt h

module _ (cs : List Cell) (n : ℕ) (whole : width_of cs ≡ 8 * n) where
  pub record_length : (ns : List ℕ) → length (record_bytes cs ns) ≡ n
  record_length ns = bytes_length (width_of cs / 8) (packed cs ns) ∙ rw whole (omega arith)

  pub record_read : (l : List ℕ) (at : ℕ) (ns : List ℕ) → Fits cs ns → take n (drop at l) ≡ record_bytes cs ns → numbers_at cs l (8 * at) ≡ ns
  record_read l at ns f e =
      let size : 8 * n / 8 ≡ n = omega arith in
      let low : packed cs ns < 256 ^ n = rw (← (power n), ← whole) (packed_below cs ns f) in
      let part : take n (drop at l) ≡ bytes_of n (packed cs ns) = e ∙ rw (whole, size) in
      let bits : bits_at (take n (drop at l)) 0 (width_of cs) ≡ packed cs ns = rw (part, whole) (bits_of_bytes n (packed cs ns) low) in
      sym (numbers_part l at n cs (omega arith)) ∙ unpacked cs ns (take n (drop at l)) 0 f bits

  pub records_read : (l : List ℕ) (at : ℕ) (rs : List (List ℕ)) (rest : List ℕ) → ((i : ℕ) → i < length rs → Fits cs (get_or rs i []))
      → drop at l ≡ concat (map (record_bytes cs) rs) ++ rest → records_at cs l (8 * at) (length rs) ≡ rs
  unfolding records_at concat
  records_read l at [] rest f e = refl
  records_read l at (r ∷ rs) rest f e =
      let later = concat (map (record_bytes cs) rs) ++ rest in
      let here : drop at l ≡ record_bytes cs r ++ later = e ∙ append_assoc (record_bytes cs r) (concat (map (record_bytes cs) rs)) rest in
      let next : 8 * at + width_of cs ≡ 8 * (at + n) = omega arith in
      let first = ap (take n) here ∙ take_at (record_bytes cs r) later n (record_length r) in
      let behind : drop (at + n) l ≡ later = rw (← (drop-drop n at l), here) (drop_at (record_bytes cs r) later n (record_length r)) in
      rw next (ap₂ ◌∷◌ (record_read l at r (f 0 (omega arith)) first) (records_read l (at + n) rs rest (λ i h. f (suc i) (omega arith)) behind))
