use Rattle.convert.proofs.Pieces.{card_written}
use Rattle.convert.proofs.records.Way.write_card.Goals as goal

pub returns : goal.returns
returns c =
    let a = c.args in
    card_written a.self.from a.self.to a.card.now a.bodies a.joints c.sizes-read.ensures c.sizes-written.ensures a.out.now c.write_header.ensures c.write_rows.ensures
