-- What the two loops leave is the card's linkage (Loading.antt).
use Prim.Native.Nat.{◌+◌, ◌*◌}
use mathlib.Core.Path.{◌≡◌}
use mathlib.Core.List.{map}
use Rattle.card.specs.Format.{records_at}
use Rattle.card.specs.Card.{body}
use Rattle.card.specs.Parts.{sizes_of}
use Rattle.card.proofs.Editions.{cells}
use Rattle.loader.specs.Linkage.{body_of, joint_of}
use Rattle.loader.proofs.Accepted.{fits, joint_fits}
use Rattle.loader.proofs.Loading.{same_linkage, tied, all_in_reach}
use Rattle.loader.proofs.load.load.Goals.{After-sizes-first, After-load_joints}
use Rattle.loader.proofs.load.load.Goals as goal

-- what the loops left
module _ (c : After-load_joints) where
  bodies_are : c.load_bodies.new.bodies ≡ map body_of (records_at body c.args.card.bytes.now (8 * (sizes_of c.of-edition.result).header_bytes) c.args.h.bodies)
  bodies_are = rw (c.sizes-first.ensures, c.requires.1) at c.load_bodies.ensures

  joints_are : c.load_joints.new.joints ≡ map joint_of (records_at (cells c.of-edition.result).joint c.args.card.bytes.now (8 * ((sizes_of c.of-edition.result).header_bytes + 94 * c.args.h.bodies)) c.args.h.joints)
  joints_are = rw (c.sizes-first.ensures, c.requires.2) at c.load_joints.ensures

pub load_joints-requires : goal.load_joints-requires
load_joints-requires c =
    let a = c.args in
    let n = c.of-edition in (
      rw (c.sizes-first.ensures, c.requires.2) (fits a.card.bytes.now a.card.accepted n.result n.ensures a.h c.requires.0),
      λ j r. rw c.sizes-first.ensures (joint_fits a.card.bytes.now a.card.accepted n.result n.ensures a.h c.requires.0 j (rw c.requires.2 at r)).0,
    )

pub invariant_of-result : goal.invariant_of-result
invariant_of-result c =
    let a = c.args in
    let n = c.of-edition in
    let at = (goal.at.invariant_of-result c).After-load_joints in
    record {
      tied = tied a.card.bytes.now a.h a.card.accepted c.requires.0 n.result n.ensures (bodies_are at) (joints_are at);
      in_reach = all_in_reach a.card.bytes.now a.h a.card.accepted c.requires.0 n.result n.ensures (bodies_are at) (joints_are at);
    }

pub returns-clause-linkage : goal.returns-clause-linkage
returns-clause-linkage c =
    let a = c.args in
    let n = c.of-edition in
    let at = (goal.at.returns-clause-linkage c).After-load_joints in
    same_linkage a.card.bytes.now a.h a.card.accepted c.requires.0 n.result n.ensures (bodies_are at) (joints_are at)
