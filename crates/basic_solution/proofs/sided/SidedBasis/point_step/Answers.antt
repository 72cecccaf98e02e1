use Rattle.std.proofs.Common.{◌∙◌, sym, subst}
use Rattle.basic_solution.specs.Numbers.{IsFirstWideValue}
use Rattle.basic_solution.proofs.sided.SidedBasis.point_step.Goals as goal

pub returns : goal.returns
returns c = λ first. record { within = c.requires.row; basic = c.variable-b.ensures ∙ c.basic.ensures.value; first = subst (IsFirstWideValue c.args.self.now c.args.row) (sym c.variable-k.ensures) first }
