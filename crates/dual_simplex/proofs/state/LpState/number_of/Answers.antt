use Rattle.std.proofs.Common.{subst}
use Rattle.basic_solution.specs.Numbers.{IsNumberAnswer}
use Rattle.dual_simplex.proofs.state.LpState.number_of.Goals as goal

pub returns : goal.returns
returns c = subst (λ s. IsNumberAnswer s c.args.variable c.number_of.result) c.self.view_is c.number_of.ensures
