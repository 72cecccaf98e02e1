use Rattle.std.proofs.Common.{get_or, length, sym, ap, subst, ◌∙◌, ◌≡◌, ◌<◌, ◌≤◌, ◌+◌, ◌*◌, ◌^◌, ◌<ℤ◌, ◌+ℤ◌, ◌*ℤ◌, pos, unsigned_abs, ℕ, arith, below_more, to_z, of_z, w64}
use Rattle.std.specs.Int.{w128}
use Rattle.frac128.specs.Rational.{ℚ, int}
use Rattle.frac128.specs.LowestTerms.{quotient_of}
use Rattle.checked_sum.specs.Steps.{partial}
use Rattle.checked_sum.proofs.StepLaws.{partial_none}
use Rattle.row_tableau.specs.Dense.{table_of}
use Rattle.row_tableau.proofs.LayoutLemmas.{few_entries}
use Rattle.table_entries.specs.WholeSteps.{IsShort, whole_number_at}
use Rattle.whole_sums.specs.Wholes.{IsWholeTerm, HasMargin}
use Rattle.whole_sums.proofs.SumLemmas.{start_is, total_more, term_of_number}
use Rattle.basic_solution.specs.Held.{IsSided, relaxation, table, variables}
use Rattle.basic_solution.specs.Priced.{row_cost}
use Rattle.basic_solution.specs.RowTotals.{IsSmallNumber, HasSmallTerm, IsCostTotal}
use Rattle.basic_solution.proofs.RowTotalLemmas.{place_cost, size_more, start_size, margin_of}
use Rattle.basic_solution.proofs.PricedLemmas.{total_of_priced}
use Rattle.basic_solution.proofs.ReadLemmas.{small_short, small_short_again, start_read, total_read, none_below}
use Rattle.table_entries.proofs.ReadLemmas.{short_read, short_again}
use Rattle.basic_solution.proofs.sided.SidedBasis.priced_total.Goals as goal

pub small_of-requires : goal.small_of-requires
small_of-requires c =
    let within = c.nonbasic.ensures.within in
    let size = c.self.invariant.shape.cost_length in
    omega (arith, within, size)

pub loop-turn-init : goal.loop-turn-init
loop-turn-init c =
    let now = c.args.self.now in
    let start = c.in-Some.start in
    let small : IsSmallNumber start = c.in-Some.ensures.small in
    let d = c.args.denominator in
    let d_is : to_z w64 (of_z w64 d) ≡ d = short_read d c.requires.denominator in
    let size : unsigned_abs (start *ℤ d) ≤ 2 ^ 93 = start_size start d small c.requires.denominator in
    let total_is : to_z w128 (of_z w128 c.product-total.result) ≡ start *ℤ d = start_read c.product-total.result start d small c.requires.denominator c.product-total.ensures in
    let variable_is = subst (λ t. c.nonbasic.result ≡ (table_of t).nonbasic c.args.place) (ap (λ s. s.tableau) c.self.view_is) c.nonbasic.ensures.value in
    let own : int start ≡ place_cost now c.args.place = sym c.in-Some.ensures.value ∙ ap (λ s. (relaxation s).cost c.nonbasic.result) c.self.view_is ∙ ap (relaxation now).cost variable_is in
    record {
      size = subst (λ t. unsigned_abs t ≤ (0 + 1) * 2 ^ 93) (sym total_is) (omega (arith, size));
      value = (λ i. quotient_of (total_is i) (d_is i)) ∙ start_is start d c.requires.positive ∙ own ∙ partial_none (place_cost now c.args.place) (λ j. row_cost now (get_or c.args.rows.now j 0)) (λ j. (table now).entry (get_or c.args.rows.now j 0) c.args.place);
      terms = λ i below. absurd (none_below i below);
    }

pub product-total-requires-clause-first : goal.product-total-requires-clause-first
product-total-requires-clause-first c = small_short_again c.in-Some.start c.in-Some.ensures.small

pub product-total-requires-clause-second : goal.product-total-requires-clause-second
product-total-requires-clause-second c = short_again c.args.denominator c.requires.denominator

pub with_product-total-requires-clause-total : goal.with_product-total-requires-clause-total
with_product-total-requires-clause-total c =
    let before = c.loop-turn.invariant in
    let few = c.columns-columns.ensures.lawful.few in
    let less = c.loop-turn-test.true in
    let most = c.requires.priced.few in
    let columns = ap (λ s. s.tableau.columns) c.self.view_is in
    let activities = ap (λ s. s.tableau.activities) c.self.view_is in
    margin_of (to_z w128 c.loop-turn.total-bits) (c.loop-turn.turn + 1) (omega (arith, few, less, most, columns, activities)) before.size

pub loop-turn-preserved : goal.loop-turn-preserved
loop-turn-preserved c =
    let now = c.args.self.now in
    let rows = c.args.rows.now in
    let numbers = c.args.numbers.now in
    let a : ℕ → ℚ = λ j. row_cost now (get_or rows j 0) in
    let x : ℕ → ℚ = λ j. (table now).entry (get_or rows j 0) c.args.place in
    let d = c.args.denominator in
    let d' = to_z w64 (of_z w64 d) in
    let k = c.loop-turn.turn in
    let before = c.loop-turn.invariant in
    let total = to_z w128 c.loop-turn.total-bits in
    let entries = c.in-Some-numbers_over.entries.now in
    let at = c.flat_index-at.result in
    let at_is : at ≡ get_or rows k 0 * c.self.inside.tableau.columns + c.args.place = c.flat_index-at.ensures.value ∙ ap (λ n. get_or rows k 0 * n + c.args.place) c.columns-columns.ensures.value in
    let inside : at < length entries = let all = c.in-Some-numbers_over.ensures.length in let within = c.flat_index-at.ensures.within in let m = c.activities-activities.ensures in let n = c.columns-columns.ensures.value in
    subst (λ l. at < l) (sym (all ∙ (λ i. sym m i * sym n i))) within in
    let f = whole_number_at entries at in
    let f_short : IsShort f = c.in-Some-numbers_over.ensures.short at inside in
    let n = whole_number_at numbers k in
    let small : IsSmallNumber n = c.requires.priced.small k c.loop-turn-test.true in
    let n_short : IsShort n = small_short n small in
    let d_is : d' ≡ d = short_read d c.requires.denominator in
    let positive : pos 0 <ℤ d' = subst (λ y. pos 0 <ℤ y) (sym d_is) c.requires.positive in
    let d_short : IsShort d' = subst IsShort (sym d_is) c.requires.denominator in
    let less = c.loop-turn-test.true in
    let tableau_is = ap (λ s. s.tableau) c.self.view_is in
    let row_there : get_or rows k 0 < c.self.inside.tableau.activities = subst (λ t. get_or rows k 0 < t.activities) (sym tableau_is) (c.requires.priced.within k less) in
    let place_there : c.args.place < c.self.inside.tableau.columns = subst (λ t. c.args.place < t.columns) (sym tableau_is) c.requires.place in
    let column : (table_of c.self.inside.tableau).basic (get_or rows k 0) < c.self.inside.tableau.columns = subst (λ t. (table_of t).basic (get_or rows k 0) < t.columns) (sym tableau_is) (c.requires.priced.columns k less) in
    let entry_is : x k ≡ quotient_of f d' =
    subst (λ t. (table_of t).entry (get_or rows k 0) c.args.place ≡ quotient_of f d') tableau_is
    (c.in-Some-numbers_over.ensures.value (get_or rows k 0) c.args.place row_there place_there column ∙ ap (λ p. quotient_of (whole_number_at entries p) d') (sym at_is)) in
    let term : IsWholeTerm d' (a k) (x k) f n = term_of_number (a k) (x k) f n d' positive f_short n_short (c.requires.priced.costs k less) entry_is in
    let few = c.columns-columns.ensures.lawful.few in
    let most = c.requires.priced.few in
    let columns = ap (λ s. s.tableau.columns) c.self.view_is in
    let activities = ap (λ s. s.tableau.activities) c.self.view_is in
    let margin : HasMargin total = margin_of total (k + 1) (omega (arith, few, less, most, columns, activities)) before.size in
    let next = total +ℤ f *ℤ n in
    let size : unsigned_abs next ≤ (k + 1 + 1) * 2 ^ 93 = size_more total f n (k + 1) f_short small before.size in
    let next_margin : HasMargin next = margin_of next (k + 1 + 1) (omega (arith, few, less, most, columns, activities)) size in
    let next' = to_z w128 (of_z w128 c.with_product-total.result) in
    let next_is : next' ≡ next = total_read c.with_product-total.result total f n f_short n_short next_margin c.with_product-total.ensures in
    record {
      size = subst (λ t. unsigned_abs t ≤ (k + 1 + 1) * 2 ^ 93) (sym next_is) size;
      value = total_more (place_cost now c.args.place) a x k d' total (record { positive = positive; short = d_short }) margin f n term next' next_is (subst HasMargin (sym next_is) next_margin) before.value;
      terms = below_more (λ j. HasSmallTerm d' (a j) (x j)) k before.terms (f, (n, (term, small)));
    }

pub returns : goal.returns
returns c =
    let s = c.args.self.now in
    let same = ap (λ s. s.tableau) c.self.view_is in
    let columns = ap (λ s. s.tableau.columns) c.self.view_is in
    let activities = ap (λ s. s.tableau.activities) c.self.view_is in
    let sided = subst IsSided c.self.view_is c.self.invariant in
    let few : variables s < 2 ^ 32 = let w = c.columns-columns.ensures.lawful.few in omega (arith, w, columns, activities) in
    let d = c.args.denominator in
    let d_is : to_z w64 (of_z w64 d) ≡ d = short_read d c.requires.denominator in
    let start = c.in-Some.start in
    let small : IsSmallNumber start = c.in-Some.ensures.small in
    let variable_is = subst (λ t. c.nonbasic.result ≡ (table_of t).nonbasic c.args.place) same c.nonbasic.ensures.value in
    let own : place_cost s c.args.place ≡ int start = sym (ap (relaxation s).cost variable_is) ∙ ap (λ t. (relaxation t).cost c.nonbasic.result) (sym c.self.view_is) ∙ c.in-Some.ensures.value in
    let past = c.loop-turn-test.false in
    let within = c.loop-turn.auto.turn-end in
    let all : c.loop-turn.turn ≡ c.args.count = omega (arith, past, within) in
    let total = to_z w128 c.loop-turn.total-bits in
    let rows = c.args.rows.now in
    let inv = c.loop-turn.invariant in
    let positive : pos 0 <ℤ to_z w64 (of_z w64 d) = subst (λ y. pos 0 <ℤ y) (sym d_is) c.requires.positive in
    let short : IsShort (to_z w64 (of_z w64 d)) = subst IsShort (sym d_is) c.requires.denominator in
    subst (λ e. IsCostTotal s c.args.place e total) d_is
    (total_of_priced s sided few c.args.place _ positive short start small own rows c.args.numbers.now c.args.count c.requires.priced
    (λ j q. inv.terms j (subst (λ i. j < i) (sym all) q)) total (subst (λ i. unsigned_abs total ≤ (i + 1) * 2 ^ 93) all inv.size)
    (inv.value ∙ ap (partial (place_cost s c.args.place) (λ j. row_cost s (get_or rows j 0)) (λ j. (table s).entry (get_or rows j 0) c.args.place)) all))

pub flat_index-at-requires-clause-row : goal.flat_index-at-requires-clause-row
flat_index-at-requires-clause-row c =
    let within = c.requires.priced.within c.loop-turn.turn c.loop-turn-test.true in
    let m = c.activities-activities.ensures in
    let activities = ap (λ s. s.tableau.activities) c.self.view_is in
    omega (arith, within, m, activities)

pub flat_index-at-requires-clause-place : goal.flat_index-at-requires-clause-place
flat_index-at-requires-clause-place c =
    let within = c.requires.place in
    let n = c.columns-columns.ensures.value in
    let columns = ap (λ s. s.tableau.columns) c.self.view_is in
    omega (arith, within, n, columns)

pub flat_index-at-requires-clause-room : goal.flat_index-at-requires-clause-room
flat_index-at-requires-clause-room c =
    let few = c.columns-columns.ensures.lawful.few in
    let m = c.activities-activities.ensures in
    let n = c.columns-columns.ensures.value in
    few_entries c.columns-columns.result c.activities-activities.result (omega (arith, few, m, n))

pub bounds-entries-at : goal.bounds-entries-at
bounds-entries-at c =
    let all = c.in-Some-numbers_over.ensures.length in let within = c.flat_index-at.ensures.within in let m = c.activities-activities.ensures in let n = c.columns-columns.ensures.value in
    subst (λ l. c.flat_index-at.result < l) (sym (all ∙ (λ i. sym m i * sym n i))) within

pub with_product-total-requires-clause-factor : goal.with_product-total-requires-clause-factor
with_product-total-requires-clause-factor c =
    let entries = c.in-Some-numbers_over.entries.now in
    let at = c.flat_index-at.result in
    let inside : at < length entries = let all = c.in-Some-numbers_over.ensures.length in let within = c.flat_index-at.ensures.within in let m = c.activities-activities.ensures in let n = c.columns-columns.ensures.value in
    subst (λ l. at < l) (sym (all ∙ (λ i. sym m i * sym n i))) within in
    short_again (whole_number_at entries at) (c.in-Some-numbers_over.ensures.short at inside)

pub with_product-total-requires-clause-number : goal.with_product-total-requires-clause-number
with_product-total-requires-clause-number c = small_short_again (whole_number_at c.args.numbers.now c.loop-turn.turn) (c.requires.priced.small c.loop-turn.turn c.loop-turn-test.true)
