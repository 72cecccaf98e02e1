use Rattle.leaf_judging.proofs.QueueLemmas.{removes-both}
use Rattle.leaf_judging.proofs.queue.LeafQueue.take_back.Goals as goal

pub returns : goal.returns
returns c = removes-both c.args.self.now c.remove.new.self c.remove-2.new.self c.args.left.now c.args.right.now c.remove.ensures c.remove-2.ensures
