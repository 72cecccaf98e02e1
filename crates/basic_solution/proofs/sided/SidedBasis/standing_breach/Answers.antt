use Rattle.std.proofs.Common.{◌<◌, ◌≡◌, ◌∙◌, ap₂, sym, subst, to_z, of_z, w64}
use Rattle.std.specs.Int.{w128}
use Rattle.frac128.specs.LowestTerms.{quotient_of}
use Rattle.whole_sums.specs.Wholes.{HasMargin}
use Rattle.table_entries.specs.States.{basic_value}
use Rattle.basic_solution.specs.Held.{relaxation, state, table}
use Rattle.basic_solution.specs.Breach.{IsBreach}
use Rattle.basic_solution.proofs.SideLemmas.{row_breach_of, breach_at}
use Rattle.basic_solution.proofs.ReadLemmas.{margin_again}
use Rattle.table_entries.proofs.ReadLemmas.{short_again, positive_again, product_read}
use Rattle.basic_solution.proofs.sided.SidedBasis.standing_breach.Goals as goal

pub returns-in-Ok : goal.returns-in-Ok
returns-in-Ok c =
    let now = c.args.self.now in
    let row = c.args.row in
    row_breach_of now row c.in-Ok.ensures.0 c.breach.result
    (subst (λ x. IsBreach ((relaxation now).low ((table now).basic row)) ((relaxation now).high ((table now).basic row)) x c.breach.result) c.in-Ok.ensures.1
    (subst (λ s. IsBreach ((relaxation s).low ((table s).basic row)) ((relaxation s).high ((table s).basic row)) c.in-Ok.value c.breach.result) c.self.view_is
    (breach_at _ c.self.invariant row c.basic-variable.result (subst (λ s. row < s.tableau.activities) (sym c.self.view_is) c.requires.row) c.basic-variable.ensures.value
    c.index-low.result.now c.index-high.result.now c.index-low.ensures c.index-high.ensures c.in-Ok.value c.breach.result c.breach.ensures)))

pub returns-in-Some-standing_total : goal.returns-in-Some-standing_total
returns-in-Some-standing_total c =
    let now = c.args.self.now in
    let row = c.args.row in
    let total = c.in-Some-standing_total.total in
    let d = c.in-Some.denominator in
    let d' = to_z w64 (of_z w64 d) in
    let margin : HasMargin total = c.in-Some-standing_total.ensures.margin in
    let t_is : to_z w128 (of_z w128 total) ≡ total = product_read total margin in
    let read = quotient_of (to_z w128 (of_z w128 total)) d' in
    let value_is : read ≡ basic_value (relaxation now) (state now) row = ap₂ quotient_of t_is (λ i. d') ∙ c.in-Some-standing_total.ensures.value in
    row_breach_of now row c.in-Some-standing_total.ensures.fits c.total_breach.result
    (subst (λ x. IsBreach ((relaxation now).low ((table now).basic row)) ((relaxation now).high ((table now).basic row)) x c.total_breach.result) value_is
    (subst (λ s. IsBreach ((relaxation s).low ((table s).basic row)) ((relaxation s).high ((table s).basic row)) read c.total_breach.result) c.self.view_is
    (breach_at _ c.self.invariant row c.basic-variable.result (subst (λ s. row < s.tableau.activities) (sym c.self.view_is) c.requires.row) c.basic-variable.ensures.value
    c.index-low.result.now c.index-high.result.now c.index-low.ensures c.index-high.ensures read c.total_breach.result c.total_breach.ensures)))

pub standing_total-requires-clause-positive : goal.standing_total-requires-clause-positive
standing_total-requires-clause-positive c = positive_again c.in-Some.denominator c.in-Some.ensures.short c.in-Some.ensures.positive

pub standing_total-requires-clause-denominator : goal.standing_total-requires-clause-denominator
standing_total-requires-clause-denominator c = short_again c.in-Some.denominator c.in-Some.ensures.short

pub total_breach-requires-clause-total : goal.total_breach-requires-clause-total
total_breach-requires-clause-total c = margin_again c.in-Some-standing_total.total c.in-Some-standing_total.ensures.margin

pub total_breach-requires-clause-positive : goal.total_breach-requires-clause-positive
total_breach-requires-clause-positive c = positive_again c.in-Some.denominator c.in-Some.ensures.short c.in-Some.ensures.positive

pub total_breach-requires-clause-denominator : goal.total_breach-requires-clause-denominator
total_breach-requires-clause-denominator c = short_again c.in-Some.denominator c.in-Some.ensures.short

pub standing_value-requires-clause-standing : goal.standing_value-requires-clause-standing
standing_value-requires-clause-standing c = c.requires.standing.listed
