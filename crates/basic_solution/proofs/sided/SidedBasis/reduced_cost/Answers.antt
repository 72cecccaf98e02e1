use Rattle.std.proofs.Common.{◌∙◌, ap₂, to_z, of_z, w64}
use Rattle.frac128.specs.LowestTerms.{quotient_of}
use Rattle.table_entries.proofs.ReadLemmas.{short_again, positive_again, product_read}
use Rattle.basic_solution.proofs.ReadLemmas.{margin_again}
use Rattle.basic_solution.proofs.sided.SidedBasis.reduced_cost.Goals as goal

pub cost_total-requires-clause-positive : goal.cost_total-requires-clause-positive
cost_total-requires-clause-positive c = positive_again c.denominator-denominator.result c.denominator-denominator.ensures.short c.denominator-denominator.ensures.positive

pub cost_total-requires-clause-denominator : goal.cost_total-requires-clause-denominator
cost_total-requires-clause-denominator c = short_again c.denominator-denominator.result c.denominator-denominator.ensures.short

pub quotient-requires-clause-total : goal.quotient-requires-clause-total
quotient-requires-clause-total c = margin_again c.in-Some.total c.in-Some.ensures.margin

pub quotient-requires-clause-positive : goal.quotient-requires-clause-positive
quotient-requires-clause-positive c = positive_again c.denominator-denominator.result c.denominator-denominator.ensures.short c.denominator-denominator.ensures.positive

pub quotient-requires-clause-denominator : goal.quotient-requires-clause-denominator
quotient-requires-clause-denominator c = short_again c.denominator-denominator.result c.denominator-denominator.ensures.short

pub returns-in-Some : goal.returns-in-Some
returns-in-Some c =
    let d = c.denominator-denominator.result in
    let margin = c.in-Some.ensures.margin in
    (c.in-Some.ensures.fits, c.quotient.ensures ∙ ap₂ quotient_of (product_read c.in-Some.total margin) (λ i. to_z w64 (of_z w64 d)) ∙ c.in-Some.ensures.value)

pub returns : goal.returns
returns c = c.cost_by_terms.ensures
