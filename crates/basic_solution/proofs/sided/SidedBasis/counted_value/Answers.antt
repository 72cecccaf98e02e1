use Rattle.std.proofs.Common.{◌≡◌, ◌∙◌, ap₂, to_z, of_z, w64}
use Rattle.std.specs.Int.{w128}
use Rattle.frac128.specs.LowestTerms.{quotient_of}
use Rattle.whole_sums.specs.Wholes.{HasMargin}
use Rattle.basic_solution.proofs.ReadLemmas.{margin_again}
use Rattle.table_entries.proofs.ReadLemmas.{short_again, positive_again, product_read}
use Rattle.basic_solution.proofs.sided.SidedBasis.counted_value.Goals as goal

pub returns-in-Some : goal.returns-in-Some
returns-in-Some c =
    let d = c.denominator-denominator.result in
    let margin : HasMargin c.in-Some.total = c.in-Some.ensures.margin in
    let t_is : to_z w128 (of_z w128 c.in-Some.total) ≡ c.in-Some.total = product_read c.in-Some.total margin in
    (c.in-Some.ensures.fits, c.quotient.ensures ∙ ap₂ quotient_of t_is (λ i. to_z w64 (of_z w64 d)) ∙ c.in-Some.ensures.value)

pub returns : goal.returns
returns c = c.standing_value.ensures

pub standing_total-requires-clause-positive : goal.standing_total-requires-clause-positive
standing_total-requires-clause-positive c = positive_again c.denominator-denominator.result c.denominator-denominator.ensures.short c.denominator-denominator.ensures.positive

pub standing_total-requires-clause-denominator : goal.standing_total-requires-clause-denominator
standing_total-requires-clause-denominator c = short_again c.denominator-denominator.result c.denominator-denominator.ensures.short

pub quotient-requires-clause-total : goal.quotient-requires-clause-total
quotient-requires-clause-total c = margin_again c.in-Some.total c.in-Some.ensures.margin

pub quotient-requires-clause-positive : goal.quotient-requires-clause-positive
quotient-requires-clause-positive c = positive_again c.denominator-denominator.result c.denominator-denominator.ensures.short c.denominator-denominator.ensures.positive

pub quotient-requires-clause-denominator : goal.quotient-requires-clause-denominator
quotient-requires-clause-denominator c = short_again c.denominator-denominator.result c.denominator-denominator.ensures.short

pub standing_value-requires-clause-standing : goal.standing_value-requires-clause-standing
standing_value-requires-clause-standing c = c.requires.standing.listed
