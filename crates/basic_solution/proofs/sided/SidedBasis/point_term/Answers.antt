use Rattle.std.proofs.Common.{◌≡◌, ◌∙◌, sym, ap, subst, arith, pos, to_z, of_z, w64}
use Rattle.std.proofs.lemmas.Int.{ints}
use Rattle.frac128.specs.Rational.{int}
use Rattle.frac128.specs.LowestTerms.{quotient_of}
use Rattle.table_entries.specs.Steps.{at_nonbasic}
use Rattle.table_entries.specs.FlatSteps.{dense_entry}
use Rattle.table_entries.specs.WholeSteps.{IsShort}
use Rattle.whole_sums.proofs.SumLemmas.{term_of_factor, term_of_nothing}
use Rattle.basic_solution.specs.Held.{relaxation, table, state}
use Rattle.basic_solution.proofs.PointLemmas.{no_standing, own_standing, own_entry}
use Rattle.table_entries.proofs.ReadLemmas.{short_read}
use Rattle.basic_solution.proofs.sided.SidedBasis.point_term.Goals as goal

pub returns-in-Row : goal.returns-in-Row
returns-in-Row c =
    term_of_nothing _ _ c.args.denominator c.requires.positive
    (subst (λ s. at_nonbasic (relaxation s) (table s) (state s).at c.args.variable ≡ int (pos 0)) c.self.view_is
    (no_standing _ c.self.invariant c.args.variable c.in-Row.field-0 c.in-Row.ensures.0 c.in-Row.ensures.1))

pub returns-in-Some-number_over : goal.returns-in-Some-number_over
returns-in-Some-number_over c =
    let place = c.in-Place.place in
    let factor = c.in-Some-number_over.factor in
    let number = c.in-Some.number in
    let factor_short : IsShort factor = c.in-Some-number_over.ensures.short in
    let number_short : IsShort number = c.in-Some.ensures.short in
    let f_is : to_z w64 (of_z w64 factor) ≡ factor = short_read factor factor_short in
    let n_is : to_z w64 (of_z w64 number) ≡ number = short_read number number_short in
    let d_is : to_z w64 (of_z w64 c.args.denominator) ≡ c.args.denominator = let range = c.ranges.denominator in omega (arith, ints, range) in
    let entry_is = subst (λ s. at_nonbasic (relaxation s) (table s) ((table s).entry c.args.row) c.args.variable ≡ dense_entry c.self.inside.tableau.columns c.self.inside.tableau.entries c.args.row place) c.self.view_is
    (own_entry _ c.self.invariant c.args.row c.args.variable place c.in-Place.ensures.0 c.in-Place.ensures.1) in
    let at_is = subst (λ s. at_nonbasic (relaxation s) (table s) (state s).at c.args.variable ≡ (state s).at place) c.self.view_is
    (own_standing _ c.self.invariant c.args.variable place c.in-Place.ensures.0 c.in-Place.ensures.1) in
    term_of_factor _ _ (to_z w64 (of_z w64 factor)) (to_z w64 (of_z w64 number)) c.args.denominator c.requires.positive (subst IsShort (sym f_is) factor_short) (subst IsShort (sym n_is) number_short)
    (entry_is ∙ c.in-Some-number_over.ensures.value ∙ (λ i. quotient_of (sym f_is i) (d_is i)))
    (at_is ∙ sym c.place_number.ensures ∙ c.in-Some.ensures.value ∙ ap int (sym n_is))
