-- Document 01, 'Examples': one body, no joints, all zero but rotation w 1 and x velocity 16; its checks as one table, with document 02's of editions 2 and 3.
use Rattle.std.specs.Prelude.{ℕ, ◌+◌, ◌*◌, ◌/◌, ◌%◌, ◌≡◌, List, [], ◌∷◌, ◌++◌, length, take, replicate}
use Rattle.card.specs.Checks.{check_of}

abbrev floats0 : ℕ → List ℕ
floats0 n = replicate (4 * n) 0

-- the zero bits, 6 floats, 1, 3 floats, 16 and 12 floats
abbrev example_body : List ℕ
example_body = (0 ∷ 0 ∷ []) ++ floats0 6 ++ (0x3f ∷ 0x80 ∷ 0 ∷ 0 ∷ []) ++ floats0 3 ++ (0x41 ∷ 0x80 ∷ 0 ∷ 0 ∷ []) ++ floats0 12

-- the header's floats, and that body
abbrev floats_and_body : List ℕ
floats_and_body = floats0 2 ++ example_body

-- edition 1, 1 body, the rate
abbrev pub example_card : ℕ → List ℕ
example_card rate = (1 ∷ 4 ∷ 0 ∷ rate * 4 ∷ []) ++ floats_and_body

-- edition 2, so many bodies, the rate
abbrev pub example_card2 : ℕ → ℕ → List ℕ
example_card2 bodies rate = (2 ∷ bodies ∷ 0 ∷ rate / 256 ∷ rate % 256 ∷ 0 ∷ 0 ∷ 0 ∷ []) ++ floats_and_body

-- edition 3, 2 such bodies, rate 16, and a tether between them, all zero but for its kind, its second body, its limit's bit and the breaking load
abbrev pub example_card3 : List ℕ → List ℕ
example_card3 load = (3 ∷ 2 ∷ 1 ∷ 0 ∷ 16 ∷ 0 ∷ 0 ∷ 0 ∷ []) ++ floats_and_body ++ example_body ++ (0x80 ∷ 0 ∷ 0x30 ∷ []) ++ floats0 30 ++ load

pub record Examples : Type 0 where
  pub size : length (example_card 16) ≡ 106
  -- 105 bytes for that card is refusal 5
  pub short : check_of (take 105 (example_card 16)) ≡ 5
  -- its 106 bytes with rate 15 are refusal 4, with 16 accepted
  pub slow : check_of (example_card 15) ≡ 4
  pub accepted : check_of (example_card 16) ≡ 0
  -- in edition 2 it has 110 bytes; with rate 4,000 they are accepted, with 4,001 refusal 4
  pub size_2 : length (example_card2 1 16) ≡ 110
  pub fastest_2 : check_of (example_card2 1 4000) ≡ 0
  pub faster_2 : check_of (example_card2 1 4001) ≡ 4
  -- the first 12 bytes of such a card have all that 3 and 4 read: 201 bodies are refusal 3, rate 15 is 4, and else the length is 5
  pub crowded_2 : check_of (take 12 (example_card2 201 16)) ≡ 3
  pub slow_2 : check_of (take 12 (example_card2 1 15)) ≡ 4
  pub short_2 : check_of (take 12 (example_card2 1 16)) ≡ 5
  pub shorter_2 : check_of (take 11 (example_card2 1 16)) ≡ 1
  -- in edition 3 a joint has 127 bytes; a breaking load of -0 or of f32::MAX is accepted, one of infinity or below zero refusal 7
  pub size_3 : length (example_card3 (floats0 1)) ≡ 16 + 2 * 94 + 127
  pub zero_3 : check_of (example_card3 (0x80 ∷ 0 ∷ 0 ∷ 0 ∷ [])) ≡ 0
  pub largest_3 : check_of (example_card3 (0x7f ∷ 0x7f ∷ 0xff ∷ 0xff ∷ [])) ≡ 0
  pub infinite_3 : check_of (example_card3 (0x7f ∷ 0x80 ∷ 0 ∷ 0 ∷ [])) ≡ 7
  pub negative_3 : check_of (example_card3 (0x80 ∷ 0 ∷ 0 ∷ 1 ∷ [])) ≡ 7
  -- there is no edition 4
  pub edition_4 : check_of (4 ∷ replicate 11 0) ≡ 2
