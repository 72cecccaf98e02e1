use Rattle.front_check.proofs.OutcomeSteps.{LaterSoFar}
use Rattle.front_check.proofs.outcomes.judge_later.Given as goal

abbrev pub invariant-loop-outcome : goal.invariant-loop-outcome
invariant-loop-outcome l = LaterSoFar l.model l.before l.later l.outcome-index l.first l.rest.items l.last
