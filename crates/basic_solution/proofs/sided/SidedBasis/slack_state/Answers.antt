use Rattle.basic_solution.proofs.SlackLemmas.{cost_at_slack, none_kept, never_misplaced, restood_slack, kept_placed}
use Rattle.basic_solution.proofs.sided.SidedBasis.slack_state.Goals as goal

pub stand_by_costs-requires : goal.stand_by_costs-requires
stand_by_costs-requires c = cost_at_slack c.args.relax.now c.in-Ok.basis c.in-Ok.ensures.state

pub returns-then-not-stand_by_costs-clause-answer : goal.returns-then-not-stand_by_costs-clause-answer
returns-then-not-stand_by_costs-clause-answer c = λ t t_at kept.
    let wrong = c.stand_by_costs.ensures.misplaced c.if-not-stand_by_costs.true in
    none_kept c.args.relax.now c.in-Ok.basis t c.in-Ok.ensures.state t_at wrong.0 wrong.1.0 wrong.1.1 kept

pub returns-then-not-stand_by_costs-clause-directions : goal.returns-then-not-stand_by_costs-clause-directions
returns-then-not-stand_by_costs-clause-directions c = λ kind.
    let wrong = c.stand_by_costs.ensures.misplaced c.if-not-stand_by_costs.true in
    absurd (never_misplaced c.args.relax.now kind c.in-Ok.basis c.in-Ok.ensures.state c.columns-sided.ensures.sided wrong.0 wrong.1.0 wrong.1.1)

pub returns-clause-answer : goal.returns-clause-answer
returns-clause-answer c = (
  restood_slack c.args.relax.now c.in-Ok.basis c.stand_by_costs.new.self c.stand_by_costs.ensures.same c.in-Ok.ensures.state,
  kept_placed c.stand_by_costs.new.self c.columns-kept.ensures.sided (c.stand_by_costs.ensures.placed c.if-not-stand_by_costs.false),
)
