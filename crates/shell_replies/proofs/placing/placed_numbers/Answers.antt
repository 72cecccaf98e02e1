use Rattle.std.proofs.Common.{sym, subst}
use Rattle.command_words.specs.declared.words.NewNumbers.{NewNumbers}
use Rattle.shell_replies.specs.Placing.{AreNumbersPlaced}
use Rattle.shell_replies.proofs.placing.placed_numbers.Goals as goal

pub returns-in-Sides : goal.returns-in-Sides
returns-in-Sides c = subst (λ (numbers : NewNumbers). AreNumbersPlaced numbers c.args.model.now c.args.named.now c.placed_sides.result) (sym c.in-Sides.is) c.placed_sides.ensures

pub returns-in-Costs : goal.returns-in-Costs
returns-in-Costs c = subst (λ (numbers : NewNumbers). AreNumbersPlaced numbers c.args.model.now c.args.named.now c.placed_costs.result) (sym c.in-Costs.is) c.placed_costs.ensures
