use Rattle.std.proofs.Common.{◌<◌, ◌+◌, arith, length}
use Rattle.basic_solution.specs.Held.{table, state}
use Rattle.dual_simplex.proofs.RatioLemmas.{none_compared, wide_first, wide_second}
use Rattle.dual_simplex.proofs.EnterLemmas.{may_some, best_within, best_some, stays_best, goes_best, wide_place}
use Rattle.dual_simplex.proofs.entering.better_by_fractions.Goals as goal

pub first_part-requires-clause-place : goal.first_part-requires-clause-place
first_part-requires-clause-place c = best_within c.args.state.now c.args.row c.args.side c.args.place c.args.best.now c.requires.best c.requires.place

pub first_part-requires-clause-some : goal.first_part-requires-clause-some
first_part-requires-clause-some c = best_some c.args.state.now c.args.row c.args.side c.args.place c.args.best.now c.requires.best

pub first_part-requires-clause-first : goal.first_part-requires-clause-first
first_part-requires-clause-first c = c.requires.best.1.0

pub ratio_part-requires-clause-part : goal.ratio_part-requires-clause-part
ratio_part-requires-clause-part c = omega arith

pub ratio_part-requires-clause-some : goal.ratio_part-requires-clause-some
ratio_part-requires-clause-some c = may_some c.args.side ((state c.args.state.now).stand c.args.place) ((table c.args.state.now).entry c.args.row c.args.place) c.requires.may

pub compare-requires-clause-first : goal.compare-requires-clause-first
compare-requires-clause-first c = best_within c.args.state.now c.args.row c.args.side c.args.place c.args.best.now c.requires.best c.requires.place

pub compare-requires-clause-first_some : goal.compare-requires-clause-first_some
compare-requires-clause-first_some c = best_some c.args.state.now c.args.row c.args.side c.args.place c.args.best.now c.requires.best

pub compare-requires-clause-second_some : goal.compare-requires-clause-second_some
compare-requires-clause-second_some c = may_some c.args.side ((state c.args.state.now).stand c.args.place) ((table c.args.state.now).entry c.args.row c.args.place) c.requires.may

pub compare-requires-clause-left : goal.compare-requires-clause-left
compare-requires-clause-left c = c.in-Ok.ensures

pub compare-requires-clause-right : goal.compare-requires-clause-right
compare-requires-clause-right c = c.in-Ok-ratio_part.ensures

pub stays-requires-clause-best : goal.stays-requires-clause-best
stays-requires-clause-best c = best_within c.args.state.now c.args.row c.args.side c.args.place c.args.best.now c.requires.best c.requires.place

pub returns-in-Err : goal.returns-in-Err
returns-in-Err c =
    let now = c.args.state.now in
    let best = c.args.best.now.place in
    let within : 0 < length now.order + 1 = omega arith in
    wide_place now c.args.row c.args.side c.args.place c.requires.best.0.1 best c.requires.best.0.0 c.requires.may c.in-Err.step
    (wide_first now c.args.row c.args.side best c.args.place 0 within (none_compared now c.args.row c.args.side best c.args.place) c.in-Err.step c.in-Err.ensures)

pub returns-in-Err-ratio_part : goal.returns-in-Err-ratio_part
returns-in-Err-ratio_part c =
    let now = c.args.state.now in
    let best = c.args.best.now.place in
    let within : 0 < length now.order + 1 = omega arith in
    wide_place now c.args.row c.args.side c.args.place c.requires.best.0.1 best c.requires.best.0.0 c.requires.may c.in-Err-ratio_part.step
    (wide_second now c.args.row c.args.side best c.args.place 0 within (none_compared now c.args.row c.args.side best c.args.place) c.in-Ok.left c.in-Ok.ensures c.in-Err-ratio_part.step c.in-Err-ratio_part.ensures)

pub returns-in-Err-compare : goal.returns-in-Err-compare
returns-in-Err-compare c =
    wide_place c.args.state.now c.args.row c.args.side c.args.place c.requires.best.0.1 c.args.best.now.place c.requires.best.0.0 c.requires.may c.in-Err-compare.step c.in-Err-compare.ensures

pub returns-then-stays : goal.returns-then-stays
returns-then-stays c = (
  stays_best c.args.state.now c.args.row c.args.side c.args.place c.requires.best.0.1 c.args.best.now.place c.requires.best.0.0 c.requires.may c.in-Ok-compare.order c.stays.result c.in-Ok-compare.ensures c.stays.ensures c.if-stays.true,
  (c.in-Ok.ensures, c.requires.best.1.1),
)

pub returns-else-stays : goal.returns-else-stays
returns-else-stays c = (
  goes_best c.args.state.now c.args.row c.args.side c.args.place c.requires.best.0.1 c.args.best.now.place c.requires.best.0.0 c.requires.may c.in-Ok-compare.order c.stays.result c.in-Ok-compare.ensures c.stays.ensures c.if-stays.false,
  (c.in-Ok-ratio_part.ensures, tt),
)
