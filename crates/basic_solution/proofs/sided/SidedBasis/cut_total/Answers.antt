use Rattle.std.proofs.Common.{sym, ap, ◌∙◌, ◌≡◌, ◌<◌, ◌≤◌, ◌+◌, ◌-◌, ℕ, length, pos, arith}
use Rattle.std.proofs.lemmas.Option.{IfSome_then}
use Rattle.frac128.specs.Rational.{int}
use Rattle.lp_model.specs.CutTerms.{term_of}
use Rattle.lp_model.specs.Formulations.{formulation}
use Rattle.lp_model.proofs.ElementLemmas.{of_element-get}
use Rattle.row_tableau.specs.Activities.{activity_coefficient}
use Rattle.row_tableau.proofs.CutLemmas.{cut_activity}
use Rattle.basic_solution.proofs.CutTotalLemmas.{cut_total_of}
use Rattle.basic_solution.proofs.sided.SidedBasis.cut_total.Goals as goal

pub terms_total-requires-clause-few : goal.terms_total-requires-clause-few
terms_total-requires-clause-few c = let few = c.columns-columns.ensures.lawful.few in let same = c.columns-columns.ensures.value in omega (arith, few, same)

pub terms_total-requires-clause-size : goal.terms_total-requires-clause-size
terms_total-requires-clause-size c = let is = c.columns-columns.ensures.value in let same = ap (λ s. s.tableau.columns) c.self.view_is in let size = c.requires.size in omega (arith, is, same, size)

pub terms_total-requires-clause-short : goal.terms_total-requires-clause-short
terms_total-requires-clause-short c = λ j q. c.requires.short j (let is = c.columns-columns.ensures.value in let same = ap (λ s. s.tableau.columns) c.self.view_is in omega (arith, is, same, q))

pub returns : goal.returns
returns c =
    let now = c.args.self.now in
    let cuts = c.self.inside.cuts.now in
    let F = formulation c.self.inside.model.now cuts in
    let rows = length c.rows-rows.result.now in
    let variable = c.args.variable in
    let columns = c.columns-columns.result in
    let past_columns : columns ≤ variable = c.if-variable-columns.false in
    let past_rows : rows ≤ variable - columns = c.if-activity-rows.false in
    let cut = variable - columns - rows in
    let cut_within : cut < length cuts = c.if-cuts-cut.false in
    let rows_are : rows ≡ length F.model.rows = ap length c.rows-rows.ensures.items in
    let activity : rows + cut ≡ variable - columns = omega (arith, past_rows) in
    let is : variable ≡ columns + (rows + cut) = omega (arith, past_columns, past_rows) in
    let terms_are : (k : ℕ) → term_of k c.as_slice.result.now ≡ activity_coefficient now.form (rows + cut) k =
    λ k. ap (term_of k) c.as_slice.ensures ∙ ap (λ x. term_of k x.terms) (sym c.index-cuts-cut.is) ∙ sym (of_element-get (int (pos 0)) (λ x. term_of k x.terms) cuts cut c.index-cuts-cut.result cut_within c.index-cuts-cut.is) ∙ cut_activity F rows cut k rows_are
    ∙ ap (λ s. activity_coefficient s.form (rows + cut) k) c.self.view_is in
    let columns_are : columns ≡ now.tableau.columns = c.columns-columns.ensures.value ∙ ap (λ s. s.tableau.columns) c.self.view_is in
    IfSome_then c.terms_total.result c.terms_total.ensures
    (λ total of. cut_total_of now columns (rows + cut) c.as_slice.result.now c.args.totals.now columns_are terms_are variable is total of)
