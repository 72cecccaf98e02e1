use Rattle.std.proofs.Common.{subst}
use Rattle.basic_solution.specs.Numbers.{IsMultiplierAnswer}
use Rattle.dual_simplex.proofs.state.LpState.multiplier_of.Goals as goal

pub returns : goal.returns
returns c = subst (λ s. IsMultiplierAnswer s c.args.variable c.multiplier_of.result) c.self.view_is c.multiplier_of.ensures
