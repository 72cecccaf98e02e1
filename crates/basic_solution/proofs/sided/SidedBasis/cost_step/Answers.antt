use Rattle.std.proofs.Common.{◌∙◌, sym, subst}
use Rattle.basic_solution.specs.Numbers.{IsFirstWideReducedCost}
use Rattle.basic_solution.proofs.sided.SidedBasis.cost_step.Goals as goal

pub returns : goal.returns
returns c = λ first. record { within = c.requires.place; nonbasic = c.variable-k.ensures ∙ c.nonbasic.ensures.value; first = subst (IsFirstWideReducedCost c.args.self.now c.args.place) (sym c.variable-b.ensures) first }
