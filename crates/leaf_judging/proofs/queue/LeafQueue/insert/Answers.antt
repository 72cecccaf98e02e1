use Rattle.leaf_judging.specs.declared.choosing.Candidate.{Candidate}
use Rattle.leaf_judging.specs.declared.queue.LeafQueue.{LeafQueue}
use Rattle.leaf_judging.specs.Queued.{Has}
use Rattle.leaf_judging.proofs.QueueLemmas.{adds-one}
use Rattle.leaf_judging.proofs.queue.LeafQueue.insert.Goals as goal

pub returns-clause-added : goal.returns-clause-added
unfolding Has
returns-clause-added c =
    let new : LeafQueue = record { candidates = c.insert.new.self } in
    let candidate : Candidate = record { leaf_number = c.args.leaf_number; id = c.args.id } in
    adds-one c.args.self.now new candidate c.in_ok-insert.ensures.updates.0
