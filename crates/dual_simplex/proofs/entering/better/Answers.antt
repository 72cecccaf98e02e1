use Rattle.basic_solution.specs.Held.{table, state}
use Rattle.dual_simplex.proofs.EnterLemmas.{may_some, best_within, best_some}
use Rattle.dual_simplex.proofs.entering.better.Goals as goal

pub best_whole-requires-clause-place : goal.best_whole-requires-clause-place
best_whole-requires-clause-place c = best_within c.args.state.now c.args.row c.args.side c.args.place c.args.best.now c.requires.best c.requires.place

pub best_whole-requires-clause-some : goal.best_whole-requires-clause-some
best_whole-requires-clause-some c = best_some c.args.state.now c.args.row c.args.side c.args.place c.args.best.now c.requires.best

pub best_whole-requires-clause-first : goal.best_whole-requires-clause-first
best_whole-requires-clause-first c = c.requires.best.1.1

pub whole_ratio-requires-clause-some : goal.whole_ratio-requires-clause-some
whole_ratio-requires-clause-some c = may_some c.args.side ((state c.args.state.now).stand c.args.place) ((table c.args.state.now).entry c.args.row c.args.place) c.requires.may
