-- A card's records, decoded, are its linkage; its joints are tied to its bodies and their angle limits within reach.
use Prim.Native.Nat.{ℕ, ◌+◌, ◌*◌, ◌<◌}
use mathlib.Core.Path.{◌≡◌, refl, ap, ◌∙◌}
use mathlib.Core.List.{List, [], map}
use lib.ListN.{length, get_or}
use Rattle.card.specs.declared.edition.Edition as named
use Rattle.card.specs.Format.{bits_at, Cell, width_of, numbers_at, records_at}
use Rattle.card.specs.Card.{body, card_of}
use Rattle.card.specs.Checks.{check_of}
use Rattle.card.specs.Parts.{edition_number, sizes_of}
use Rattle.card.proofs.Editions.{cells, joint_of_lem}
use Rattle.loader.specs.declared.body.LinkBody.{LinkBody}
use Rattle.loader.specs.declared.joint.LinkJoint.{LinkJoint}
use Rattle.loader.specs.declared.header.Header.{Header}
use Rattle.loader.specs.Linkage.{Linkage, body_of, joint_of, linkage_of}
use Rattle.loader.specs.Linked.{Tied, EachInReach}
use Rattle.loader.specs.Parts.{header_of}
use Rattle.loader.proofs.Accepted.{bodies_are, joints_are, joint_fits}
use Rattle.loader.proofs.Records.{row_at, row_length}
use Rattle.loader.proofs.Reach.{in_reach}

-- the card begins with edition n
module _ (card : List ℕ) (h : Header) (z : check_of card ≡ 0) (e : h ≡ header_of (card_of card)) (n : named.Edition) (en : edition_number n ≡ bits_at card 0 8) where
  abbrev bytes : ℕ
  bytes = (sizes_of n).header_bytes

  abbrev cs : List Cell
  cs = (cells n).joint

  abbrev joints : ℕ
  joints = 8 * (bytes + 94 * h.bodies)

  module _ {bs : List LinkBody} {js : List LinkJoint} (ebs : bs ≡ map body_of (records_at body card (8 * bytes) h.bodies)) (ej : js ≡ map joint_of (records_at cs card joints h.joints)) where
    pub same_linkage : ◌≡◌ {A = Linkage} (record { dt = h.dt; gravity = h.gravity; warm_coefficient = h.warm_coefficient; bodies = bs; joints = js }) (linkage_of (card_of card))
    unfolding linkage_of header_of
    same_linkage = rw (ebs, ej, ← (bodies_are card z n en h e), ← (joints_are card z n en h e), e) refl

    counted : length js ≡ h.joints
    counted = ap length ej ∙ row_length cs joint_of card joints h.joints

    here : (j : ℕ) → j < length js → get_or js j (joint_of []) ≡ joint_of (numbers_at cs card (joints + j * width_of cs))
    here j r = rw ej (row_at cs joint_of card joints h.joints j (rw counted at r))

    many : length bs ≡ h.bodies
    many = ap length ebs ∙ row_length body body_of card (8 * bytes) h.bodies

    pub tied : Tied bs js
    tied =
        record {
          first = λ j r. rw (here j r, many) (joint_fits card z n en h e j (rw counted at r)).1;
          second = λ j r. rw (here j r, many) (joint_fits card z n en h e j (rw counted at r)).2;
        }

    pub all_in_reach : EachInReach js
    all_in_reach j r = rw (here j r) (in_reach cs (joint_of_lem n) card (joints + j * width_of cs) (joint_fits card z n en h e j (rw counted at r)).3)
