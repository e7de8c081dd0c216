-- Angle limits of a joint that no check refuses are within reach, and so are the turns that they ask for.
use Rattle.std.specs.Prelude.{IfSome}
use Prim.Native.Nat.{ℕ, zero, suc, ◌+◌, ◌*◌, ◌<◌}
use mathlib.Core.Path.{◌≡◌, refl, ap, ◌∙◌}
use mathlib.Core.Bool.{Bool, true, false}
use mathlib.Core.List.{List, [], map}
use lib.ListN.{length, get_or, length-map, get_or-map}
use lib.Dec.{T}
use lib.Ieee.{Float}
use Rattle.joints.specs.Reach.{InReach, TurnsInReach, EachAngleLimit}
use Rattle.joints.proofs.Reach.{each_turns}
use Rattle.numbers.specs.Numbers.{number_in}
use Rattle.card.specs.declared.edition.Edition as named
use Rattle.card.specs.Format.{bits_at, Cell, width_of, numbers_at, records_at}
use Rattle.card.specs.Card.{at, flag, kind_at, kind_of, card_of}
use Rattle.card.specs.Checks.{check_of}
use Rattle.card.specs.Accepted.{Narrow}
use Rattle.card.specs.Parts.{edition_number, sizes_of}
use Rattle.card.proofs.Editions.{cells, JointOf, joint_of_lem, joint_numbers_lem}
use Rattle.card.proofs.Accepted.{edition}
use Rattle.card.proofs.Cut.{records_length, record_at}
use Rattle.loader.specs.Linkage.{angle_limit_in, revolute_in, spherical_in, kind_in, joint_of, linkage_of}
use Rattle.loader.specs.declared.header.Header.{Header}
use Rattle.loader.specs.Parts.{header_of}
use Rattle.loader.specs.Reach.{LimitsInReach}
use Rattle.loader.proofs.Accepted.{joints_are, joint_fits}

module _ (words : List ℕ) (floats : List Float) where
  -- the limit at place k of the floats
  abbrev Within : ℕ → Type 0
  Within k = InReach (record { min = number_in floats k; max = number_in floats (k + 1) })

  limit : (b : Bool) (k : ℕ) → Within k → IfSome (angle_limit_in floats b k) InReach
  limit true k r = r
  limit false k r = tt

  by_kind : (k : ℕ) → at 0 words ≡ k → (T (kind_at k).angles → Within 21 × Within 23) → EachAngleLimit InReach (kind_in words floats)
  unfolding kind_at kind_in revolute_in spherical_in
  by_kind zero e r = rw e tt
  by_kind (suc zero) e r = rw e (limit (flag 3 words) 21 (r tt).0)
  by_kind (suc (suc zero)) e r = rw e tt
  by_kind (suc (suc (suc zero))) e r = rw e (limit (flag 3 words) 21 (r tt).0, limit (flag 4 words) 23 (r tt).1)
  by_kind (suc (suc (suc (suc k)))) e r = rw e tt

pub in_reach : (cs : List Cell) → JointOf cs → (l : List ℕ) (p : ℕ)
    → let ns = numbers_at cs l p in (T (kind_of ns).angles → Narrow 28 ns × Narrow 30 ns) → EachAngleLimit InReach (joint_of ns).joint
unfolding numbers_at
in_reach cs J l p =
    joint_numbers_lem l p cs J (λ ns. (T (kind_of ns).angles → Narrow 28 ns × Narrow 30 ns) → EachAngleLimit InReach (joint_of ns).joint)
    (λ kind body1 body2 first second motor zero r. by_kind _ _ _ refl r)

-- ---- of an accepted card

module _ (card : List ℕ) (z : check_of card ≡ 0) (h : Header) (e : h ≡ header_of (card_of card)) (j : ℕ) where
  abbrev named_as : (n : named.Edition) × (edition_number n ≡ bits_at card 0 8)
  named_as = edition card z

  abbrev cs : List Cell
  cs = (cells named_as.0).joint

  abbrev place : ℕ
  place = 8 * ((sizes_of named_as.0).header_bytes + 94 * h.bodies)

  row_in_reach : j < length (map joint_of (card_of card).joints) → EachAngleLimit TurnsInReach (get_or (map joint_of (card_of card).joints) j (joint_of [])).joint
  row_in_reach r =
      let row = records_at cs card place h.joints in
      let are : (card_of card).joints ≡ row = joints_are card z named_as.0 named_as.1 h e in
      let within : j < h.joints = rw (are, length-map row joint_of, records_length cs card place h.joints) at r in
      let here : get_or (map joint_of row) j (joint_of []) ≡ joint_of (numbers_at cs card (place + j * width_of cs)) = get_or-map joint_of row j [] ∙ ap joint_of (record_at cs card place h.joints j within) in
      rw (are, here)
      (each_turns (joint_of (numbers_at cs card (place + j * width_of cs))).joint
      (in_reach cs (joint_of_lem named_as.0) card (place + j * width_of cs) (joint_fits card z named_as.0 named_as.1 h e j within).3))

pub limits_in_reach : LimitsInReach
unfolding linkage_of
limits_in_reach card z j r = row_in_reach card z (header_of (card_of card)) refl j r
