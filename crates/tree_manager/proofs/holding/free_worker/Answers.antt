use Rattle.tree_manager.proofs.HeldLemmas.{without}
use Rattle.tree_manager.proofs.holding.free_worker.Goals as goal

pub keep_others-requires : goal.keep_others-requires
keep_others-requires c = λ v k h other. c.requires.others c.if-point.false v k (without c.args.held.now.items c.args.w c.requires.within v k h) other
