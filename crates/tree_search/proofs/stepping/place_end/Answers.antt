use Rattle.tree_search.proofs.StopLemmas.{end-works, end-steps}
use Rattle.tree_search.proofs.stepping.place_end.Goals as goal

pub stop_by_pivots-requires-clause-works : goal.stop_by_pivots-requires-clause-works
stop_by_pivots-requires-clause-works c = end-works c.args.working.now c.args.job c.args.manager.now.search c.args.manager.now.search c.args.end _ c.in-Pivots.is c.requires.works

pub returns-in-Pivots-clause-steps : goal.returns-in-Pivots-clause-steps
returns-in-Pivots-clause-steps c = end-steps c.args.working.now c.args.job c.args.manager.now.search c.stop_by_pivots.new.manager.search c.args.end _ c.in-Pivots.is c.stop_by_pivots.result c.stop_by_pivots.ensures.steps

pub stop_by_step-stepped-requires-clause-works : goal.stop_by_step-stepped-requires-clause-works
stop_by_step-stepped-requires-clause-works c = end-works c.args.working.now c.args.job c.args.manager.now.search c.args.manager.now.search c.args.end _ c.in-Wide.is c.requires.works

pub returns-in-Wide-clause-steps : goal.returns-in-Wide-clause-steps
returns-in-Wide-clause-steps c = end-steps c.args.working.now c.args.job c.args.manager.now.search c.stop_by_step-stepped.new.manager.search c.args.end _ c.in-Wide.is c.stop_by_step-stepped.result c.stop_by_step-stepped.ensures.steps

pub place_done-requires-clause-works : goal.place_done-requires-clause-works
place_done-requires-clause-works c = end-works c.args.working.now c.args.job c.args.manager.now.search c.args.manager.now.search c.args.end _ c.in-Done.is c.requires.works

pub returns-in-Done-clause-steps : goal.returns-in-Done-clause-steps
returns-in-Done-clause-steps c = end-steps c.args.working.now c.args.job c.args.manager.now.search c.place_done.new.manager.search c.args.end _ c.in-Done.is c.place_done.result c.place_done.ensures.steps
