use Rattle.wcn_driver.proofs.ends.found_of.Goals as goal

pub outcome_at-requires-clause-feasible : goal.outcome_at-requires-clause-feasible
outcome_at-requires-clause-feasible c = c.requires.judged.0
