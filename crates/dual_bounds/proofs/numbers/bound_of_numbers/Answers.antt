use Rattle.std.proofs.Common.{ap, ◌∙◌}
use Rattle.std.specs.Prelude.{Option, unwrap_or}
use Rattle.dual_bounds.specs.declared.answers.LowerBound.{LowerBound}
use Rattle.dual_bounds.specs.TreeBounds.{least_of_numbers, value_or_infeasible}
use Rattle.dual_bounds.proofs.numbers.bound_of_numbers.Goals as goal

pub returns-in-Some : goal.returns-in-Some
returns-in-Some c = ap (λ (d : Option LowerBound). unwrap_or d (value_or_infeasible (least_of_numbers c.args.numbers.now))) c.in-Some.ensures

pub returns-in-None : goal.returns-in-None
returns-in-None c =
    c.value_or_infeasible.ensures
    ∙ ap value_or_infeasible c.least_of_numbers.ensures
    ∙ ap (λ (d : Option LowerBound). unwrap_or d (value_or_infeasible (least_of_numbers c.args.numbers.now))) c.in-None.ensures
