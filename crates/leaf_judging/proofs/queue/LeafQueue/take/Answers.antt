use Rattle.leaf_judging.specs.declared.queue.LeafQueue.{LeafQueue}
use Rattle.leaf_judging.specs.Queued.{Has}
use Rattle.leaf_judging.proofs.QueueLemmas.{removes-one}
use Rattle.leaf_judging.proofs.queue.LeafQueue.take.Goals as goal

pub returns : goal.returns
unfolding Has
returns c =
    let new : LeafQueue = record { candidates = c.remove.new.self } in
    removes-one c.args.self.now new c.args.candidate.now c.remove.ensures.updates.0
