use Rattle.relaxation_rows.proofs.starting.begin.Goals as goal

pub slack-requires-clause-ordered : goal.slack-requires-clause-ordered
slack-requires-clause-ordered c = c.is_ordered.ensures.ordered c.if-not-is_ordered.false

pub at_list-requires-clause-ordered : goal.at_list-requires-clause-ordered
at_list-requires-clause-ordered c = c.is_ordered.ensures.ordered c.if-not-is_ordered.false
