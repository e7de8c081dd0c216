use Rattle.tick.proofs.Ticking.{tick_is}
use Rattle.tick.proofs.run.tick.Goals as goal

pub returns : goal.returns
returns c =
    let c2 = c.before.before in
    let c6 = c2.before.before.before.before in
    tick_is c6.args.card.now c6.args.state.now c2.run.ensures
