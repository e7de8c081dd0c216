-- Document 01, 'Turned back', 1 to 10, and document 02: the refusals of a card in their order, each over the whole card.
use Rattle.std.specs.Prelude.{ℕ, ◌+◌, ◌*◌, Bool, true, false, not, ◌||◌, ◌&&◌, List, [], ◌∷◌, length, get_or, leb, ltb, eqb, Float}
use Rattle.std.specs.Float.Ieee.{neg, lt}
use Rattle.scalar.specs.Arith.{f32, f7}
use Rattle.scalar.specs.Scalar.{outside}
use Rattle.vector.specs.Vector.{length_squared_of}
use Rattle.vector.specs.Rotation.{norm_squared_of}
use Rattle.card.specs.Format.{bits_at, width_of, unused_set, out_of_range}
use Rattle.card.specs.Card.{at, flag, body, kind_of, motored, Edition, editions, edition_at, Card, card_of, float, vec3, quat}

unfoldable pub any : {A : Type 0} → (A → Bool) → List A → Bool
any p [] = false
any p (a ∷ l) = p a || any p l

-- a kind, limit or motor bit does not fit
abbrev pub misfit : List ℕ → Bool
misfit j = not ((kind_of j).fits (flag 3 j) (flag 4 j) (motored j))

-- document 02, point 5: a dominance is set (of an anchored body this is 6)
abbrev pub dominant : List ℕ → Bool
dominant b = not (eqb (at 4 b) 0)

-- a limit's min, number k, or its max is over 7 in size
abbrev pub wide : ℕ → List ℕ → Bool
wide k j = outside (float j k) (neg f7) f7 || outside (float j (k + 1)) (neg f7) f7

-- an angle limit is; one without use is zero, by 6
abbrev pub too_wide : List ℕ → Bool
too_wide j = (kind_of j).angles && (wide 28 j || wide 30 j)

-- a limit's min, number k, is above its max
abbrev pub reversed : ℕ → List ℕ → Bool
reversed k j = lt (float j (k + 1)) (float j k)

-- squares that sum to outside 1 ± 2^-10
unfoldable pub off_unit : Float → Bool
off_unit s = outside s (f32 0x3f7f_c000) (f32 0x3f80_2000)

-- a used basis or axis
abbrev pub off_axis : List ℕ → Bool
off_axis j =
    (kind_of j).bases && (off_unit (norm_squared_of (quat j 13)) || off_unit (norm_squared_of (quat j 17)))
    || (kind_of j).axis && off_unit (length_squared_of (vec3 j 21))

abbrev pub anchored : List (List ℕ) → ℕ → Bool
anchored bodies i = flag 0 (get_or bodies i [])

-- a missing body, one body twice, or two anchored ones
abbrev pub wrong_pair : List (List ℕ) → ℕ → ℕ → Bool
wrong_pair bodies a b = leb (length bodies) a || leb (length bodies) b || eqb a b || anchored bodies a && anchored bodies b

-- a number, and whether it applies
pub data Refusal : Type 0 where
  refuse : ℕ → Bool → Refusal

-- the number of the first that applies, 0 where none does
abbrev pub first_of : List Refusal → ℕ
first_of [] = 0
first_of (refuse n true ∷ checks) = n
first_of (refuse n false ∷ checks) = first_of checks

-- of the records
abbrev pub record_checks : Edition → Card → List Refusal
record_checks e c =
    refuse 6 (unused_set e.header c.header || any (unused_set body) c.bodies || any (λ j. unused_set e.joint j || misfit j) c.joints)
    ∷ refuse 17 (any dominant c.bodies)
    ∷ refuse 7 (out_of_range e.header c.header || any (out_of_range body) c.bodies || any (out_of_range e.joint) c.joints)
    ∷ refuse 19 (any too_wide c.joints)
    ∷ refuse 8 (any (λ j. reversed 28 j || reversed 30 j) c.joints)
    ∷ refuse 9 (any (λ b. off_unit (norm_squared_of (quat b 9))) c.bodies || any off_axis c.joints)
    ∷ refuse 10 (any (λ j. wrong_pair c.bodies (at 1 j) (at 2 j)) c.joints)
    ∷ []

abbrev pub card_checks : Edition → List ℕ → Card → List Refusal
card_checks e card c =
    let n = bits_at card 0 8 in
    let bodies = at 1 c.header in
    let joints = at 2 c.header in
    let rate = at 3 c.header in
    refuse 1 (ltb (length card) 12)
    ∷ refuse 2 (eqb n 0 || ltb (length editions) n)
    ∷ refuse 3 (eqb bodies 0 || ltb e.most bodies || ltb e.most joints)
    ∷ refuse 4 (ltb rate 16 || ltb e.fastest rate)
    ∷ refuse 5 (not (eqb (8 * length card) (width_of e.header + width_of body * bodies + width_of e.joint * joints)))
    ∷ record_checks e c

unfoldable pub check_of : List ℕ → ℕ
check_of card = first_of (card_checks (edition_at card) card (card_of card))
