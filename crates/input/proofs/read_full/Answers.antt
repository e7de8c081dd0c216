use Rattle.std.proofs.Common.{◌≡◌, ℕ, ◌+◌, ◌-◌, ◌≤◌, List, ◌++◌, rules, length, take, sym, ap, ◌∙◌, subst, length-take-le}
use Rattle.std.specs.Io.KnownBytes.{Consumes}
use Rattle.std.proofs.KnownBytes.{Consumes-trans}
use borrow.Rule.Slice.PartMut.{put_mid, post_of}
use lib.Seq.{take-append-add, take-append-le}
use Rattle.input.proofs.read_full.Goals as goal

filled : (a k n : ℕ) (xs ys : List ℕ) → a ≤ length xs → n ≤ length ys → take a xs ++ take n ys ≡ take (a + n) (put_mid a k xs ys)
filled a k n xs ys within fits =
    let after = post_of a k xs in
    ap (λ l. take a xs ++ l) (sym (take-append-le n ys after fits))
    ∙ sym (take-append-add (take a xs) (ys ++ after) n)
    ∙ ap (λ m. take (m + n) (put_mid a k xs ys)) (length-take-le a xs within)

pub loop-done-preserved : goal.loop-done-preserved
loop-done-preserved g c =
    let l = c.loop-done in
    let n = c.in_ok-n.n in
    let joined = filled l.done (length l.buf - l.done) n l.buf c.read.new.buf l.invariant.1 c.in_ok-n.ensures.bound.0 in
    (search rules, search rules, subst (Consumes _ _) joined (Consumes-trans _ _ _ _ _ l.invariant.2 c.in_ok-n.ensures.bytes.0))
