use Rattle.leaf_dual.proofs.NamedFront.{lag-front}
use Rattle.leaf_dual.proofs.dual.path_lag.Goals as goal

pub returns : goal.returns
returns c =
    let front = c.named_front.ensures in
    lag-front c.args.model.now c.args.path.now c.args.mult.now c.dual_number.result c.args.cuts.now c.named_front.result.now front.front front.few front.behind c.dual_number.ensures
