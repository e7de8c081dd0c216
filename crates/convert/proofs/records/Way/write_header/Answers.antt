use mathlib.Core.Path.{◌∙◌}
use Rattle.convert.proofs.Starts.{header_written}
use Rattle.convert.proofs.Editions.{row, size_is}
use Rattle.convert.proofs.records.Way.write_header.Goals as goal

pub returns : goal.returns
returns c =
    let a = c.args in
    header_written (row a.self.from a.self.convertible.0) (row a.self.to a.self.convertible.1) a.part.now (λ i. (c.type_inv.part i).fits) a.out.now (c.requires.0 ∙ size_is a.self.from a.self.convertible.0) (c.requires.1 ∙ size_is a.self.to a.self.convertible.1) c.header_bits-h.ensures c.copy_from_slice.ensures.after c.write_header_bits.ensures
