use Rattle.std.proofs.Common.{◌≡◌, List, IfOk, sym, subst}
use Rattle.frac128.specs.Rational.{ℚ}
use Rattle.lp_model.specs.declared.types.RowId.{RowId}
use Rattle.lp_model.specs.declared.types.ColId.{ColId}
use Rattle.dual_bounds.specs.NewNumbers.{with_new_sides, with_new_costs, with_new_numbers, AreNewSides, AreNewCosts, AreNewNumbers}
use Rattle.dual_bounds.specs.declared.new_numbers.OtherNumbers.{OtherNumbers}
use Rattle.dual_bounds.proofs.new_numbers.model_with_numbers.Goals as goal

pub model_with_sides-requires : goal.model_with_sides-requires
model_with_sides-requires c = subst (AreNewSides c.args.model.now) (sym c.as_slice.ensures) (subst (AreNewNumbers c.args.model.now) c.in-Sides.is c.requires)

pub model_with_costs-requires : goal.model_with_costs-requires
model_with_costs-requires c = subst (AreNewCosts c.args.model.now) (sym c.as_slice-in-Costs.ensures) (subst (AreNewNumbers c.args.model.now) c.in-Costs.is c.requires)

pub returns-in-Sides : goal.returns-in-Sides
returns-in-Sides c =
    let M = c.args.model.now in
    subst (λ (numbers : OtherNumbers). IfOk c.model_with_sides.result (λ m. m ≡ with_new_numbers M numbers)) (sym c.in-Sides.is)
    (subst (λ (sides : List (RowId × ℚ)). IfOk c.model_with_sides.result (λ m. m ≡ with_new_sides M sides)) c.as_slice.ensures c.model_with_sides.ensures)

pub returns-in-Costs : goal.returns-in-Costs
returns-in-Costs c =
    let M = c.args.model.now in
    subst (λ (numbers : OtherNumbers). IfOk c.model_with_costs.result (λ m. m ≡ with_new_numbers M numbers)) (sym c.in-Costs.is)
    (subst (λ (costs : List (ColId × ℚ)). IfOk c.model_with_costs.result (λ m. m ≡ with_new_costs M costs)) c.as_slice-in-Costs.ensures c.model_with_costs.ensures)
