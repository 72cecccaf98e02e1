use Rattle.std.proofs.Common.{sym, ap, subst, ◌∙◌, ◌≡◌, ◌<◌, ◌≤◌, ◌+◌, ◌-◌, ◌*◌, ◌^◌, ◌+ℤ◌, ◌*ℤ◌, [], unsigned_abs, length, drop, arith, to_z, of_z}
use Rattle.std.specs.Int.{w128}
use Rattle.std.proofs.lemmas.List.{drop_all}
use Rattle.frac128.specs.LowestTerms.{quotient_of}
use Rattle.lp_model.specs.CutTerms.{AreTerms}
use Rattle.table_entries.specs.WholeSteps.{IsShort, whole_number_at}
use Rattle.whole_sums.proofs.SumLemmas.{zero_over}
use Rattle.basic_solution.specs.RowTotals.{IsSmallNumber}
use Rattle.basic_solution.proofs.TermLemmas.{sum_of_terms, AreBelow, rising_more, below_columns, sum_more}
use Rattle.basic_solution.proofs.CutTotalLemmas.{terms_size, terms_total_of}
use Rattle.basic_solution.proofs.ReadLemmas.{small_short, small_short_again, total_read, all_left, part_margin}
use Rattle.table_entries.proofs.ReadLemmas.{short_again}
use Rattle.basic_solution.proofs.cut_totals.terms_total.Goals as goal

pub loop-left-init : goal.loop-left-init
loop-left-init c =
    let terms = c.args.terms.now in
    let none : drop (length terms) terms ≡ [] = drop_all (length terms) terms (omega arith) in
    record {
      left = omega arith;
      end = omega arith;
      size = all_left c.args.columns;
      rising = subst (AreTerms c.args.columns) (sym none) tt;
      within = subst (AreBelow c.args.columns) (sym none) tt;
      value = λ d h. zero_over d h ∙ ap (sum_of_terms (λ j. quotient_of (whole_number_at c.args.totals.now j) d)) (sym none);
    }

pub with_product-total-requires-clause-total : goal.with_product-total-requires-clause-total
with_product-total-requires-clause-total c =
    let size = c.loop-left.invariant.size in
    let few = c.requires.few in
    part_margin c.args.columns c.loop-left.end (to_z w128 c.loop-left.total-bits) few size

pub with_product-total-requires-clause-factor : goal.with_product-total-requires-clause-factor
with_product-total-requires-clause-factor c =
    let column = c.column_of-column.result in
    let before = c.if-end-column.false in
    let end = c.loop-left.invariant.end in
    let short : IsShort (whole_number_at c.args.totals.now column) = c.requires.short column (omega (arith, before, end)) in
    short_again (whole_number_at c.args.totals.now column) short

pub with_product-total-requires-clause-number : goal.with_product-total-requires-clause-number
with_product-total-requires-clause-number c = small_short_again c.in-Some.number c.in-Some.ensures.small

pub loop-left-preserved : goal.loop-left-preserved
loop-left-preserved c =
    let n_columns = c.args.columns in
    let totals = c.args.totals.now in
    let terms = c.args.terms.now in
    let left = c.loop-left.left in
    let end = c.loop-left.end in
    let before = c.loop-left.invariant in
    let e = c.index-terms-left.result in
    let some : 0 < left = c.loop-left-test.true in
    let column = c.column_of-column.result in
    let column_is : column ≡ e.0.0 = c.column_of-column.ensures in
    let column_before : column < end = c.if-end-column.false in
    let e_before : e.0.0 < end = subst (λ k. k < end) column_is column_before in
    let below : column < n_columns = let w = before.end in omega (arith, column_before, w) in
    let f = whole_number_at totals column in
    let n = c.in-Some.number in
    let small : IsSmallNumber n = c.in-Some.ensures.small in
    let f_short : IsShort f = c.requires.short column below in
    let total = to_z w128 c.loop-left.total-bits in
    let next = total +ℤ f *ℤ n in
    let size : unsigned_abs next + column * 2 ^ 93 ≤ n_columns * 2 ^ 93 = terms_size total f n n_columns end column f_short small column_before before.size in
    let next' = to_z w128 (of_z w128 c.with_product-total.result) in
    let few = c.requires.few in
    let next_is : next' ≡ next = total_read c.with_product-total.result total f n f_short (small_short n small) (part_margin n_columns column next few size) c.with_product-total.ensures in
    record {
      left = (let w = before.left in omega (arith, w));
      end = omega (arith, below);
      size = subst (λ t. unsigned_abs t + column * 2 ^ 93 ≤ n_columns * 2 ^ 93) (sym next_is) size;
      rising = subst (λ k. AreTerms k (drop (left - 1) terms)) (sym column_is) (rising_more terms left some before.left e c.index-terms-left.is end e_before before.rising);
      within = below_columns terms left some before.left e c.index-terms-left.is n_columns (subst (λ k. k < n_columns) column_is below) before.within;
      value = λ d h. sum_more terms left some before.left e c.index-terms-left.is d total f n next' (λ j. quotient_of (whole_number_at totals j) d) h next_is (λ i. quotient_of (whole_number_at totals (sym column_is i)) d) c.in-Some.ensures.value (before.value d h);
    }

pub returns : goal.returns
returns c =
    let terms = c.args.terms.now in
    let totals = c.args.totals.now in
    let end = c.loop-left.end in
    let total = to_z w128 c.loop-left.total-bits in
    let inv = c.loop-left.invariant in
    let past = c.loop-left-test.false in
    let all : c.loop-left.left ≡ 0 = omega (arith, past) in
    terms_total_of c.args.columns end terms totals total inv.size (subst (λ k. AreTerms end (drop k terms)) all inv.rising) (subst (λ k. AreBelow c.args.columns (drop k terms)) all inv.within)
    (λ d h. subst (λ k. quotient_of total d ≡ sum_of_terms (λ j. quotient_of (whole_number_at totals j) d) (drop k terms)) all (inv.value d h))
