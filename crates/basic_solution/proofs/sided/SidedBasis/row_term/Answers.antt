use Rattle.std.proofs.Common.{refl, ◌≡◌, ◌∙◌, sym, ap, subst, arith, pos, to_z, of_z, w64}
use Rattle.std.proofs.lemmas.Int.{ints}
use Rattle.frac128.specs.Rational.{int}
use Rattle.frac128.specs.LowestTerms.{quotient_of}
use Rattle.row_tableau.specs.Dense.{table_of}
use Rattle.table_entries.specs.FlatSteps.{dense_entry}
use Rattle.table_entries.specs.WholeSteps.{IsShort}
use Rattle.whole_sums.proofs.SumLemmas.{term_of_number}
use Rattle.basic_solution.specs.Held.{relaxation, table}
use Rattle.basic_solution.specs.RowTotals.{IsSmallNumber}
use Rattle.basic_solution.proofs.RowTotalLemmas.{basic_cost}
use Rattle.basic_solution.proofs.PointLemmas.{without_cost}
use Rattle.basic_solution.proofs.ReadLemmas.{small_short, small_read, small_again, small_none, none_small}
use Rattle.table_entries.proofs.ReadLemmas.{short_read}
use Rattle.basic_solution.proofs.sided.SidedBasis.row_term.Goals as goal

pub small_of-requires : goal.small_of-requires
small_of-requires c =
    let within = c.basic.ensures.within in
    let size = c.self.invariant.shape.cost_length in
    omega (arith, within, size)

pub returns-then-number-eq0-clause-term : goal.returns-then-number-eq0-clause-term
returns-then-number-eq0-clause-term c =
    let number = c.in-Some.number in
    let none : number ≡ pos 0 = small_none number c.in-Some.ensures.small c.if-number-eq0.true in
    let variable_is = subst (λ t. c.basic.result ≡ (table_of t).basic c.args.row) (ap (λ s. s.tableau) c.self.view_is) c.basic.ensures.value in
    without_cost (basic_cost c.args.self.now c.args.row) _ c.args.denominator c.requires.positive
    (sym (ap (relaxation c.args.self.now).cost variable_is) ∙ ap (λ s. (relaxation s).cost c.basic.result) (sym c.self.view_is) ∙ c.in-Some.ensures.value ∙ ap int none)

pub returns-clause-term : goal.returns-clause-term
returns-clause-term c =
    let row = c.args.row in
    let place = c.args.place in
    let factor = c.in-Some-number_over.factor in
    let number = c.in-Some.number in
    let factor_short : IsShort factor = c.in-Some-number_over.ensures.short in
    let small : IsSmallNumber number = c.in-Some.ensures.small in
    let number_short : IsShort number = small_short number small in
    let f_is : to_z w64 (of_z w64 factor) ≡ factor = short_read factor factor_short in
    let n_is : to_z w64 (of_z w64 number) ≡ number = small_read number small in
    let d_is : to_z w64 (of_z w64 c.args.denominator) ≡ c.args.denominator = let range = c.ranges.denominator in omega (arith, ints, range) in
    let variable_is = subst (λ t. c.basic.result ≡ (table_of t).basic row) (ap (λ s. s.tableau) c.self.view_is) c.basic.ensures.value in
    let entry_is = subst (λ s. (table s).entry row place ≡ dense_entry c.self.inside.tableau.columns c.self.inside.tableau.entries row place) c.self.view_is refl in
    term_of_number (basic_cost c.args.self.now row) _ (to_z w64 (of_z w64 factor)) (to_z w64 (of_z w64 number)) c.args.denominator c.requires.positive (subst IsShort (sym f_is) factor_short) (subst IsShort (sym n_is) number_short)
    (sym (ap (relaxation c.args.self.now).cost variable_is) ∙ ap (λ s. (relaxation s).cost c.basic.result) (sym c.self.view_is) ∙ c.in-Some.ensures.value ∙ ap int (sym n_is))
    (entry_is ∙ c.in-Some-number_over.ensures.value ∙ (λ i. quotient_of (sym f_is i) (d_is i)))

pub returns-then-number-eq0-clause-small : goal.returns-then-number-eq0-clause-small
returns-then-number-eq0-clause-small c = none_small

pub returns-clause-small : goal.returns-clause-small
returns-clause-small c = small_again c.in-Some.number c.in-Some.ensures.small
