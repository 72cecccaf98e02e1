use Rattle.std.proofs.Common.{◌<◌, ◌≡◌, ◌∙◌, ap₂, sym, subst, to_z, of_z, w64}
use Rattle.std.specs.Int.{w128}
use Rattle.frac128.specs.LowestTerms.{quotient_of}
use Rattle.whole_sums.specs.Wholes.{HasMargin}
use Rattle.table_entries.specs.States.{basic_value}
use Rattle.basic_solution.specs.Held.{relaxation, state, table}
use Rattle.basic_solution.specs.Breach.{IsBreach}
use Rattle.basic_solution.proofs.SideLemmas.{row_breach_of, breach_at}
use Rattle.basic_solution.proofs.ReadLemmas.{margin_again}
use Rattle.table_entries.proofs.ReadLemmas.{short_again, positive_again, product_read}
use Rattle.basic_solution.proofs.sided.SidedBasis.row_breach.Goals as goal

pub returns-in-Ok : goal.returns-in-Ok
returns-in-Ok c =
    let now = c.args.self.now in
    let row = c.args.row in
    row_breach_of now row c.in-Ok.ensures.0 c.breach.result
    (subst (λ x. IsBreach ((relaxation now).low ((table now).basic row)) ((relaxation now).high ((table now).basic row)) x c.breach.result) c.in-Ok.ensures.1
    (subst (λ s. IsBreach ((relaxation s).low ((table s).basic row)) ((relaxation s).high ((table s).basic row)) c.in-Ok.value c.breach.result) c.self.view_is
    (breach_at _ c.self.invariant row c.basic-variable.result (subst (λ s. row < s.tableau.activities) (sym c.self.view_is) c.requires) c.basic-variable.ensures.value
    c.index-low.result.now c.index-high.result.now c.index-low.ensures c.index-high.ensures c.in-Ok.value c.breach.result c.breach.ensures)))

pub returns-in-Some : goal.returns-in-Some
returns-in-Some c =
    let now = c.args.self.now in
    let row = c.args.row in
    let total = c.in-Some.total in
    let d = c.denominator-denominator.result in
    let d' = to_z w64 (of_z w64 d) in
    let margin : HasMargin total = c.in-Some.ensures.margin in
    let t_is : to_z w128 (of_z w128 total) ≡ total = product_read total margin in
    let read = quotient_of (to_z w128 (of_z w128 total)) d' in
    let value_is : read ≡ basic_value (relaxation now) (state now) row = ap₂ quotient_of t_is (λ i. d') ∙ c.in-Some.ensures.value in
    row_breach_of now row c.in-Some.ensures.fits c.total_breach.result
    (subst (λ x. IsBreach ((relaxation now).low ((table now).basic row)) ((relaxation now).high ((table now).basic row)) x c.total_breach.result) value_is
    (subst (λ s. IsBreach ((relaxation s).low ((table s).basic row)) ((relaxation s).high ((table s).basic row)) read c.total_breach.result) c.self.view_is
    (breach_at _ c.self.invariant row c.basic-variable.result (subst (λ s. row < s.tableau.activities) (sym c.self.view_is) c.requires) c.basic-variable.ensures.value
    c.index-low.result.now c.index-high.result.now c.index-low.ensures c.index-high.ensures read c.total_breach.result c.total_breach.ensures)))

pub row_total-requires-clause-positive : goal.row_total-requires-clause-positive
row_total-requires-clause-positive c = positive_again c.denominator-denominator.result c.denominator-denominator.ensures.short c.denominator-denominator.ensures.positive

pub row_total-requires-clause-denominator : goal.row_total-requires-clause-denominator
row_total-requires-clause-denominator c = short_again c.denominator-denominator.result c.denominator-denominator.ensures.short

pub total_breach-requires-clause-total : goal.total_breach-requires-clause-total
total_breach-requires-clause-total c = margin_again c.in-Some.total c.in-Some.ensures.margin

pub total_breach-requires-clause-positive : goal.total_breach-requires-clause-positive
total_breach-requires-clause-positive c = positive_again c.denominator-denominator.result c.denominator-denominator.ensures.short c.denominator-denominator.ensures.positive

pub total_breach-requires-clause-denominator : goal.total_breach-requires-clause-denominator
total_breach-requires-clause-denominator c = short_again c.denominator-denominator.result c.denominator-denominator.ensures.short
