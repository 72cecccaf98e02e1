use Rattle.basic_solution.specs.Held.{table, state}
use Rattle.dual_simplex.proofs.EnterLemmas.{may_some, best_within, best_some, stays_best, goes_best, wide_place}
use Rattle.dual_simplex.proofs.entering.better_by_wholes.Goals as goal

pub compare_wholes-requires-clause-first : goal.compare_wholes-requires-clause-first
compare_wholes-requires-clause-first c = best_within c.args.state.now c.args.row c.args.side c.args.place c.args.best.now c.requires.best c.requires.place

pub compare_wholes-requires-clause-first_some : goal.compare_wholes-requires-clause-first_some
compare_wholes-requires-clause-first_some c = best_some c.args.state.now c.args.row c.args.side c.args.place c.args.best.now c.requires.best

pub compare_wholes-requires-clause-second_some : goal.compare_wholes-requires-clause-second_some
compare_wholes-requires-clause-second_some c = may_some c.args.side ((state c.args.state.now).stand c.args.place) ((table c.args.state.now).entry c.args.row c.args.place) c.requires.may

pub stays-requires-clause-best : goal.stays-requires-clause-best
stays-requires-clause-best c = best_within c.args.state.now c.args.row c.args.side c.args.place c.args.best.now c.requires.best c.requires.place

pub returns-in-Err : goal.returns-in-Err
returns-in-Err c = wide_place c.args.state.now c.args.row c.args.side c.args.place c.requires.best.0.1 c.args.best.now.place c.requires.best.0.0 c.requires.may c.in-Err.step c.in-Err.ensures

pub returns-then-stays : goal.returns-then-stays
returns-then-stays c = (
  stays_best c.args.state.now c.args.row c.args.side c.args.place c.requires.best.0.1 c.args.best.now.place c.requires.best.0.0 c.requires.may c.in-Ok.order c.stays.result c.in-Ok.ensures c.stays.ensures c.if-stays.true,
  (c.requires.best.1.0, c.requires.left),
)

pub returns-else-stays : goal.returns-else-stays
returns-else-stays c = (
  goes_best c.args.state.now c.args.row c.args.side c.args.place c.requires.best.0.1 c.args.best.now.place c.requires.best.0.0 c.requires.may c.in-Ok.order c.stays.result c.in-Ok.ensures c.stays.ensures c.if-stays.false,
  (tt, c.requires.right),
)
