use Rattle.std.proofs.Common.{◌≡◌, ◌∙◌, ◌<◌, ◌^◌, ◌<ℤ◌, ℕ, ℤ, pos, get_or, length, refl, sym, ap, subst, arith, to_z, of_z, w64}
use Rattle.std.specs.Int.{w128}
use Rattle.std.proofs.lemmas.Int.{ints}
use Rattle.frac128.specs.Rational.{ℚ, int}
use Rattle.frac128.specs.LowestTerms.{quotient_of}
use Rattle.checked_sum.specs.Steps.{partial}
use Rattle.table_entries.specs.States.{basic_value}
use Rattle.table_entries.specs.WholeSteps.{IsShort, whole_number_at}
use Rattle.table_entries.proofs.ReadLemmas.{short_read, short_again, positive_again}
use Rattle.whole_sums.proofs.SumLemmas.{term_of_factor}
use Rattle.basic_solution.specs.Held.{IsSided, relaxation, state, table, variables}
use Rattle.basic_solution.specs.Breach.{IsBreach}
use Rattle.basic_solution.specs.Numbers.{ValueFits}
use Rattle.basic_solution.specs.RowTotals.{HasSmallTerm}
use Rattle.basic_solution.specs.Standing.{listed_number}
use Rattle.basic_solution.proofs.RowTotalLemmas.{all_fit}
use Rattle.basic_solution.proofs.StandingLemmas.{standing_answer}
use Rattle.basic_solution.proofs.SideLemmas.{row_breach_of, breach_at}
use Rattle.basic_solution.proofs.ReadLemmas.{small_short}
use Rattle.basic_solution.proofs.FollowLemmas.{kept_read}
use Rattle.basic_solution.proofs.sided.SidedBasis.kept_breach.Goals as goal

widened : (r x n : ℤ) → r ≡ x → x ≡ n → IsShort n → to_z w128 (of_z w128 r) ≡ n
widened r x n e is h = omega (arith, ints, e, is, h)

pub returns : goal.returns
returns c =
    let now = c.args.self.now in
    let row = c.args.row in
    let d = c.args.denominator in
    let d' = to_z w64 (of_z w64 d) in
    let kept = c.requires.kept in
    let d_is : d' ≡ d = short_read d kept.denominator_short in
    let positive : pos 0 <ℤ d' = positive_again d kept.denominator_short kept.positive in
    let d_short : IsShort d' = short_again d kept.denominator_short in
    let number = whole_number_at c.args.kept.now row in
    let n_is : to_z w64 (of_z w64 number) ≡ number = kept_read number (kept.range row) in
    let short : IsShort number = subst IsShort n_is (c.is_short.ensures c.if-not-is_short.false) in
    let read = to_z w128 (of_z w128 c.from.result) in
    let read_is : read ≡ number = widened c.from.result _ number c.from.ensures n_is short in
    let value_is : quotient_of read d' ≡ basic_value (relaxation now) (state now) row = (λ i. quotient_of (read_is i) (d_is i)) ∙ kept.value row c.requires.row short in
    let columns = ap (λ s. s.tableau.columns) c.self.view_is in
    let activities = ap (λ s. s.tableau.activities) c.self.view_is in
    let few : variables now < 2 ^ 32 = let w = c.columns-few.ensures.lawful.few in omega (arith, w, columns, activities) in
    let sided = subst IsSided c.self.view_is c.self.invariant in
    let places = c.args.places.now in
    let numbers = c.args.numbers.now in
    let n = c.args.count in
    let listed = c.requires.standing.listed in
    let entries = c.in-Some._entries.now in
    let factor : ℕ → ℚ = λ j. (table now).entry row (get_or places j 0) in
    let terms : (j : ℕ) → j < n → HasSmallTerm d' (factor j) (listed_number now places j) = (λ j less.
    let at = get_or places j 0 in
    let within : at < now.tableau.columns = listed.within j less in
    let inside : at < length entries = (let size = c.in-Some.ensures.size in omega (arith, within, size)) in
    let m = whole_number_at numbers j in
    let small = c.requires.small j less in
    (whole_number_at entries at, (m, (term_of_factor (factor j) (listed_number now places j) (whole_number_at entries at) m d' positive (c.in-Some.ensures.short at inside) (small_short m small) (c.in-Some.ensures.entries at within) (c.requires.standing.numbered.stands j less small), small)))) in
    let most = listed.few in
    let fits : ValueFits now row (variables now) =
    (standing_answer now sided few row places n listed (partial (int (pos 0)) factor (listed_number now places) n) (all_fit (pos 0) (omega arith) factor (listed_number now places) d' positive d_short n (omega (arith, most, few)) terms) refl).0 in
    row_breach_of now row fits c.total_breach.result
    (subst (λ x. IsBreach ((relaxation now).low ((table now).basic row)) ((relaxation now).high ((table now).basic row)) x c.total_breach.result) value_is
    (subst (λ s. IsBreach ((relaxation s).low ((table s).basic row)) ((relaxation s).high ((table s).basic row)) (quotient_of read d') c.total_breach.result) c.self.view_is
    (breach_at _ c.self.invariant row c.basic-variable.result (subst (λ s. row < s.tableau.activities) (sym c.self.view_is) c.requires.row) c.basic-variable.ensures.value
    c.index-low.result.now c.index-high.result.now c.index-low.ensures c.index-high.ensures (quotient_of read d') c.total_breach.result c.total_breach.ensures)))
