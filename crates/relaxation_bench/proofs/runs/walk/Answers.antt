use Rattle.relaxation_bench.proofs.runs.walk.Goals as goal

pub slack-requires-clause-ordered : goal.slack-requires-clause-ordered
slack-requires-clause-ordered c = c.is_ordered.ensures.ordered c.if-not-is_ordered.false
