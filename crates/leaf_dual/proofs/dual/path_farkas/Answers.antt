use Rattle.leaf_dual.proofs.NamedFront.{farkas-front}
use Rattle.leaf_dual.proofs.dual.path_farkas.Goals as goal

pub returns : goal.returns
returns c =
    let front = c.named_front.ensures in
    farkas-front c.args.model.now c.args.path.now c.args.mult.now c.dual_number.result c.args.cuts.now c.named_front.result.now front.front front.few front.behind c.dual_number.ensures
