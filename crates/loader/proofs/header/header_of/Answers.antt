use Rattle.loader.proofs.Accepted.{rate_fits, header_read}
use Rattle.loader.proofs.header.header_of.Goals as goal

pub int_to_float-result : goal.int_to_float-result
int_to_float-result c =
    let h = c.before.before in
    let b = h.before in
    rate_fits _ c.args.card.accepted b.of-edition.result b.of-edition.ensures h.header_bits-b.ensures

pub returns : goal.returns
returns c =
    let f = c.before in
    let s = f.before.before in
    let b = s.before.before in
    let bytes = s.sizes-end.ensures in
    header_read _ c.args.card.accepted b.of-edition.result b.of-edition.ensures s.before.header_bits-b.ensures (rw bytes at f.float_at.ensures) (rw bytes at c.float_at-2.ensures)
