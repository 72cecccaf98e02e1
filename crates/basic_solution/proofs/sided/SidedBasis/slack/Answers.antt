use Rattle.std.proofs.Common.{sym, subst}
use Rattle.basic_solution.specs.ListedStates.{StandsNowhere}
use Rattle.basic_solution.specs.Slack.{IsSlackState}
use Rattle.basic_solution.proofs.sided.SidedBasis.slack.Goals as goal

pub returns-in-Ok-clause-state : goal.returns-in-Ok-clause-state
returns-in-Ok-clause-state c = subst (IsSlackState c.args.relax.now) (sym c.write_for_costs.ensures) c.in-Ok.ensures.state

pub returns-in-Ok-clause-nowhere : goal.returns-in-Ok-clause-nowhere
returns-in-Ok-clause-nowhere c = subst StandsNowhere (sym c.write_for_costs.ensures) c.in-Ok.ensures.nowhere
