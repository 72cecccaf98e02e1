use Rattle.std.proofs.Common.{◌≡◌, ◌∙◌, ◌<◌, ◌+◌, ◌*◌, ◌^◌, ◌<ℤ◌, ℕ, ℤ, pos, length, List, get_or, sym, ap, subst, arith, ⊎_elim, to_z, of_z, w64}
use Rattle.std.specs.Int.{w128}
use Rattle.std.proofs.lemmas.Bool.{cases_lt}
use Rattle.std.proofs.lemmas.Int.{ints}
use Rattle.std.proofs.lemmas.List.{get_or_past}
use Rattle.frac128.specs.Rational.{int}
use Rattle.frac128.specs.LowestTerms.{quotient_of}
use Rattle.row_tableau.specs.Dense.{table_of}
use Rattle.table_entries.specs.WholeSteps.{IsShort, AreShort, whole_number_at}
use Rattle.table_entries.proofs.ReadLemmas.{short_read}
use Rattle.whole_sums.specs.Wholes.{HasMargin}
use Rattle.whole_sums.proofs.SumLemmas.{term_of_number}
use Rattle.basic_solution.specs.Held.{IsSided, relaxation, table, variables}
use Rattle.basic_solution.specs.Priced.{row_cost}
use Rattle.basic_solution.specs.RowTotals.{IsSmallNumber, HasSmallTerm}
use Rattle.basic_solution.proofs.RowTotalLemmas.{place_cost}
use Rattle.basic_solution.proofs.PricedLemmas.{priced_fit}
use Rattle.basic_solution.proofs.ReadLemmas.{small_short}
use Rattle.basic_solution.proofs.FollowLemmas.{kept_read}
use Rattle.basic_solution.proofs.sided.SidedBasis.kept_total.Goals as goal

short_at : (xs : List ℤ) → AreShort xs → (at : ℕ) → IsShort (whole_number_at xs at)
short_at xs h at = ⊎_elim (λ q. h at q) (λ past. subst IsShort (sym (get_or_past xs at (pos 0) past)) (omega arith)) (cases_lt at (length xs))

short_margin : (n : ℤ) → IsShort n → HasMargin n
short_margin n h = omega (arith, h)

widened : (r x n : ℤ) → r ≡ x → x ≡ n → IsShort n → to_z w128 (of_z w128 r) ≡ n
widened r x n e is h = omega (arith, ints, e, is, h)

pub returns : goal.returns
returns c =
    let s = c.args.self.now in
    let place = c.args.place in
    let d = c.args.denominator in
    let d' = to_z w64 (of_z w64 d) in
    let d_is : d' ≡ d = short_read d c.requires.denominator in
    let positive : pos 0 <ℤ d' = subst (λ y. pos 0 <ℤ y) (sym d_is) c.requires.positive in
    let d_short : IsShort d' = subst IsShort (sym d_is) c.requires.denominator in
    let same = ap (λ s. s.tableau) c.self.view_is in
    let columns = ap (λ s. s.tableau.columns) c.self.view_is in
    let activities = ap (λ s. s.tableau.activities) c.self.view_is in
    let sided = subst IsSided c.self.view_is c.self.invariant in
    let few : variables s < 2 ^ 32 = let w = c.columns-few.ensures.lawful.few in omega (arith, w, columns, activities) in
    let start = c.in-Some._start in
    let small : IsSmallNumber start = c.in-Some.ensures.small in
    let variable_is = subst (λ t. c.nonbasic.result ≡ (table_of t).nonbasic place) same c.nonbasic.ensures.value in
    let own : place_cost s place ≡ int start = sym (ap (relaxation s).cost variable_is) ∙ ap (λ t. (relaxation t).cost c.nonbasic.result) (sym c.self.view_is) ∙ c.in-Some.ensures.value in
    let rows = c.args.source.now.rows.now in
    let numbers = c.args.source.now.numbers.now in
    let priced = c.requires.priced in
    let entries = c.in-Some-numbers_over._entries.now in
    let in_columns = c.self.inside.tableau.columns in
    let place_there : place < in_columns = subst (λ t. place < t.columns) (sym same) c.requires.place in
    let terms : (j : ℕ) → j < c.args.count → HasSmallTerm d' (row_cost s (get_or rows j 0)) ((table s).entry (get_or rows j 0) place) = (λ j less.
    let r = get_or rows j 0 in
    let row_there : r < c.self.inside.tableau.activities = subst (λ t. r < t.activities) (sym same) (priced.within j less) in
    let column : (table_of c.self.inside.tableau).basic r < in_columns = subst (λ t. (table_of t).basic r < t.columns) (sym same) (priced.columns j less) in
    let f = whole_number_at entries (r * in_columns + place) in
    let f_short : IsShort f = short_at entries c.in-Some-numbers_over.ensures.short (r * in_columns + place) in
    let entry_is : (table s).entry r place ≡ quotient_of f d' = subst (λ t. (table_of t).entry r place ≡ quotient_of f d') same (c.in-Some-numbers_over.ensures.value r place row_there place_there column) in
    (f, (whole_number_at numbers j, (term_of_number (row_cost s r) ((table s).entry r place) f (whole_number_at numbers j) d' positive f_short (small_short (whole_number_at numbers j) (priced.small j less)) (priced.costs j less) entry_is, priced.small j less)))) in
    let number = whole_number_at c.args.source.now.kept.now place in
    let n_is : to_z w64 (of_z w64 number) ≡ number = kept_read number (c.requires.kept.range place) in
    let short : IsShort number = subst IsShort n_is (c.is_short.ensures c.if-not-is_short.false) in
    let total_is : to_z w128 (of_z w128 c.from.result) ≡ number = widened c.from.result _ number c.from.ensures n_is short in
    let over_is : c.args.source.now.kept_over ≡ d = let e = c.if-source-denominator.false in let a = c.requires.kept.denominator_short in let b = c.requires.denominator in omega (arith, ints, e, a, b) in
    record {
      margin = subst HasMargin (sym total_is) (short_margin number short);
      fits = priced_fit s sided few place d' positive d_short start small own rows numbers c.args.count priced terms;
      value = (λ i. quotient_of (total_is i) (sym over_is i)) ∙ c.requires.kept.value place c.requires.place short;
    }
