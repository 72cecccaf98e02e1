use Rattle.std.proofs.Common.{sym, ap, subst, ◌∙◌, ◌≡◌, ◌<◌, ◌<ℤ◌, ℕ, pos, length, arith, to_z, of_z, w64}
use Rattle.table_entries.specs.WholeSteps.{IsShort, IsShortOver, whole_number_at}
use Rattle.row_tableau.specs.Dense.{table_of}
use Rattle.basic_solution.specs.Held.{table}
use Rattle.basic_solution.specs.CutTotals.{IsColumnTotal, AreColumnTotals}
use Rattle.basic_solution.proofs.CutTotalLemmas.{small_term, totals_more}
use Rattle.table_entries.proofs.ReadLemmas.{short_read, short_again, positive_again}
use Rattle.basic_solution.proofs.sided.SidedBasis.write_totals.Goals as goal

pub loop-column-preserved : goal.loop-column-preserved
loop-column-preserved c =
    let now = c.args.self.now in
    let column = c.loop-column.column in
    let totals = c.loop-column.totals in
    let n = c.in-Some-column_total.total in
    let d' = to_z w64 (of_z w64 c.in-Some.denominator) in
    let here : IsColumnTotal now column d' n = c.in-Some-column_total.ensures in
    let short : IsShort n = here.short in
    let n_is : to_z w64 (of_z w64 n) ≡ n = short_read n short in
    let room : column < length totals = let less = c.loop-column-test.true in let kept = c.loop-column.auto.totals in let long = c.if-totals-columns.false in omega (arith, less, kept, long) in
    record { each = totals_more now d' totals column (to_z w64 (of_z w64 n)) room (subst (IsColumnTotal now column d') (sym n_is) here) c.loop-column.invariant.each }

pub returns : goal.returns
returns c =
    let now = c.args.self.now in
    let d = c.in-Some.denominator in
    let short : IsShort d = c.in-Some.ensures.short in
    let positive : pos 0 <ℤ d = c.in-Some.ensures.positive in
    let d_is : to_z w64 (of_z w64 d) ≡ d = short_read d short in
    let past = c.loop-column-test.false in
    let columns_are = c.columns-columns.ensures.value ∙ ap (λ s. s.tableau.columns) c.self.view_is in
    let small = c.are_numbers_small.ensures c.if-not-are_numbers_small.false in
    let entries = subst (λ t. (i k : ℕ) → i < t.activities → k < t.columns → IsShortOver d ((table_of t).entry i k)) (ap (λ s. s.tableau) c.self.view_is) c.in-Some.ensures.entries in
    subst (λ e. AreColumnTotals now e c.loop-column.totals) (sym d_is)
    (record {
      positive = positive;
      denominator_short = short;
      size = omega (arith, c.loop-column.auto.totals, c.if-totals-columns.false, columns_are);
      each = λ j q. subst (λ e. IsColumnTotal now j e (whole_number_at c.loop-column.totals j)) d_is (c.loop-column.invariant.each j (omega (arith, past, columns_are, q)));
      terms = λ i k p q. small_term now k ((table now).entry i k) d positive (entries i k p q) (small k q);
    })

pub column_total-requires-clause-positive : goal.column_total-requires-clause-positive
column_total-requires-clause-positive c = positive_again c.in-Some.denominator c.in-Some.ensures.short c.in-Some.ensures.positive

pub column_total-requires-clause-denominator : goal.column_total-requires-clause-denominator
column_total-requires-clause-denominator c = short_again c.in-Some.denominator c.in-Some.ensures.short
