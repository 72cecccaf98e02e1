use Rattle.std.proofs.Common.{◌<◌, ◌≡◌, ◌^◌, ◌∙◌, ap, ap₂, sym, subst, arith, to_z, of_z, w64}
use Rattle.std.specs.Int.{w128}
use Rattle.std.proofs.lemmas.Int.{ints}
use Rattle.frac128.specs.LowestTerms.{quotient_of}
use Rattle.row_tableau.specs.Dense.{table_of}
use Rattle.whole_sums.specs.Wholes.{HasMargin}
use Rattle.table_entries.specs.States.{basic_value}
use Rattle.basic_solution.specs.Held.{IsSided, relaxation, state, table, variables}
use Rattle.basic_solution.specs.Breach.{IsBreach}
use Rattle.basic_solution.specs.private.RowTotals.{IsRowTotal}
use Rattle.basic_solution.proofs.SideLemmas.{row_breach_of, breach_at}
use Rattle.basic_solution.proofs.CutTotalLemmas.{cut_row_total}
use Rattle.table_entries.proofs.ReadLemmas.{short_read, short_again, positive_again, product_read}
use Rattle.basic_solution.proofs.sided.SidedBasis.cut_breach.Goals as goal

pub cut_total-requires-clause-size : goal.cut_total-requires-clause-size
cut_total-requires-clause-size c = c.requires.totals.size

pub cut_total-requires-clause-short : goal.cut_total-requires-clause-short
cut_total-requires-clause-short c = λ j q. (c.requires.totals.each j q).short

pub total_breach-requires-clause-total : goal.total_breach-requires-clause-total
total_breach-requires-clause-total c =
    let size = c.in-Some.ensures.size in
    let few = c.columns-few.ensures.lawful.few in
    let columns = ap (λ s. s.tableau.columns) c.self.view_is in
    omega (arith, ints, size, few, columns)

pub returns-in-Some : goal.returns-in-Some
returns-in-Some c =
    let now = c.args.self.now in
    let sided = subst IsSided c.self.view_is c.self.invariant in
    let row = c.args.row in
    let total = c.in-Some.total in
    let d = c.args.denominator in
    let d_is : to_z w64 (of_z w64 d) ≡ d = short_read d c.requires.totals.denominator_short in
    let columns = ap (λ s. s.tableau.columns) c.self.view_is in
    let activities = ap (λ s. s.tableau.activities) c.self.view_is in
    let few : variables now < 2 ^ 32 = let w = c.columns-few.ensures.lawful.few in omega (arith, w, columns, activities) in
    let variable_is = subst (λ t. c.basic-variable.result ≡ (table_of t).basic row) (ap (λ s. s.tableau) c.self.view_is) c.basic-variable.ensures.value in
    let of : IsRowTotal now row d total = cut_row_total now sided few row c.requires.row d c.args.totals.now c.requires.totals c.basic-variable.result variable_is total c.in-Some.ensures in
    let margin : HasMargin total = of.margin in
    let t_is : to_z w128 (of_z w128 total) ≡ total = product_read total margin in
    let read = quotient_of (to_z w128 (of_z w128 total)) (to_z w64 (of_z w64 d)) in
    let value_is : read ≡ basic_value (relaxation now) (state now) row = ap₂ quotient_of t_is d_is ∙ of.value in
    row_breach_of now row of.fits c.total_breach.result
    (subst (λ x. IsBreach ((relaxation now).low ((table now).basic row)) ((relaxation now).high ((table now).basic row)) x c.total_breach.result) value_is
    (subst (λ s. IsBreach ((relaxation s).low ((table s).basic row)) ((relaxation s).high ((table s).basic row)) read c.total_breach.result) c.self.view_is
    (breach_at _ c.self.invariant row c.basic-variable.result (subst (λ s. row < s.tableau.activities) (sym c.self.view_is) c.requires.row) c.basic-variable.ensures.value
    c.index-low.result.now c.index-high.result.now c.index-low.ensures c.index-high.ensures read c.total_breach.result c.total_breach.ensures)))

pub total_breach-requires-clause-positive : goal.total_breach-requires-clause-positive
total_breach-requires-clause-positive c = positive_again c.args.denominator c.requires.totals.denominator_short c.requires.totals.positive

pub total_breach-requires-clause-denominator : goal.total_breach-requires-clause-denominator
total_breach-requires-clause-denominator c = short_again c.args.denominator c.requires.totals.denominator_short
