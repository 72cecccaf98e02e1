use Rattle.std.proofs.Common.{◌≡◌, ◌<◌, ◌∙◌, sym, ap, subst, arith, pos, to_z, of_z, w64}
use Rattle.std.proofs.lemmas.Int.{ints}
use Rattle.frac128.specs.Rational.{int}
use Rattle.frac128.specs.LowestTerms.{quotient_of}
use Rattle.table_entries.specs.FlatSteps.{dense_entry}
use Rattle.table_entries.specs.WholeSteps.{IsShort}
use Rattle.whole_sums.proofs.SumLemmas.{term_of_number, term_of_nothing}
use Rattle.basic_solution.specs.Held.{relaxation, variables}
use Rattle.basic_solution.specs.RowTotals.{IsSmallNumber}
use Rattle.basic_solution.proofs.RowTotalLemmas.{saved}
use Rattle.basic_solution.proofs.PointLemmas.{without_cost, own_saved, no_saved}
use Rattle.basic_solution.proofs.ReadLemmas.{small_short, small_read, small_again, small_none, none_small}
use Rattle.table_entries.proofs.ReadLemmas.{short_read}
use Rattle.basic_solution.proofs.sided.SidedBasis.cost_term.Goals as goal

pub small_of-requires : goal.small_of-requires
small_of-requires c =
    let within = subst (λ s. c.args.variable < variables s) (sym c.self.view_is) c.requires.variable in
    let size = c.self.invariant.shape.cost_length in
    omega (arith, within, size)

pub returns-then-number-eq0-clause-term : goal.returns-then-number-eq0-clause-term
returns-then-number-eq0-clause-term c =
    let number = c.in-Some.number in
    let none : number ≡ pos 0 = small_none number c.in-Some.ensures.small c.if-number-eq0.true in
    without_cost ((relaxation c.args.self.now).cost c.args.variable) _ c.args.denominator c.requires.positive (ap (λ s. (relaxation s).cost c.args.variable) (sym c.self.view_is) ∙ c.in-Some.ensures.value ∙ ap int none)

pub returns-in-Some-number_over-clause-term : goal.returns-in-Some-number_over-clause-term
returns-in-Some-number_over-clause-term c =
    let row = c.in-Row.row in
    let place = c.args.place in
    let variable = c.args.variable in
    let factor = c.in-Some-number_over.factor in
    let number = c.in-Some.number in
    let factor_short : IsShort factor = c.in-Some-number_over.ensures.short in
    let small : IsSmallNumber number = c.in-Some.ensures.small in
    let number_short : IsShort number = small_short number small in
    let f_is : to_z w64 (of_z w64 factor) ≡ factor = short_read factor factor_short in
    let n_is : to_z w64 (of_z w64 number) ≡ number = small_read number small in
    let d_is : to_z w64 (of_z w64 c.args.denominator) ≡ c.args.denominator = let range = c.ranges.denominator in omega (arith, ints, range) in
    let entry_is = subst (λ s. saved s place variable ≡ dense_entry c.self.inside.tableau.columns c.self.inside.tableau.entries row place) c.self.view_is
    (own_saved _ c.self.invariant place variable row c.in-Row.ensures.0 c.in-Row.ensures.1) in
    term_of_number ((relaxation c.args.self.now).cost variable) _ (to_z w64 (of_z w64 factor)) (to_z w64 (of_z w64 number)) c.args.denominator c.requires.positive (subst IsShort (sym f_is) factor_short) (subst IsShort (sym n_is) number_short)
    (ap (λ s. (relaxation s).cost variable) (sym c.self.view_is) ∙ c.in-Some.ensures.value ∙ ap int (sym n_is))
    (entry_is ∙ c.in-Some-number_over.ensures.value ∙ (λ i. quotient_of (sym f_is i) (d_is i)))

pub returns-in-Place-clause-term : goal.returns-in-Place-clause-term
returns-in-Place-clause-term c =
    term_of_nothing ((relaxation c.args.self.now).cost c.args.variable) _ c.args.denominator c.requires.positive
    (subst (λ s. saved s c.args.place c.args.variable ≡ int (pos 0)) c.self.view_is
    (no_saved _ c.self.invariant c.args.place c.args.variable c.in-Place.field-0 c.in-Place.ensures.0 c.in-Place.ensures.1))

pub returns-then-number-eq0-clause-small : goal.returns-then-number-eq0-clause-small
returns-then-number-eq0-clause-small c = none_small

pub returns-in-Some-number_over-clause-small : goal.returns-in-Some-number_over-clause-small
returns-in-Some-number_over-clause-small c = small_again c.in-Some.number c.in-Some.ensures.small

pub returns-in-Place-clause-small : goal.returns-in-Place-clause-small
returns-in-Place-clause-small c = none_small
