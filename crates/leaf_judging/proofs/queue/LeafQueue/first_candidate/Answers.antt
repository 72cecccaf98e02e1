use Rattle.leaf_judging.specs.Queued.{Has}
use Rattle.leaf_judging.proofs.QueueLemmas.{goes_first}
use Rattle.leaf_judging.proofs.queue.LeafQueue.first_candidate.Goals as goal

pub returns-in-Some : goal.returns-in-Some
unfolding Has
returns-in-Some c = (c.in-Some.ensures.member, λ d has. goes_first c.in-Some.candidate.now d (c.in-Some.ensures.least d has))
