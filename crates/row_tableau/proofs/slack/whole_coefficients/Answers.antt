use Rattle.std.proofs.Common.{IfSome, ◌≡◌, ◌≢◌, ◌<◌, ◌≤◌, ◌*◌, ◌+◌, ◌/◌, ◌%◌, ◌∙◌, sym, ap, subst, arith, length, get_or, pos, ℕ}
use Rattle.std.proofs.lemmas.List.{with_items_is, length-map}
use Rattle.frac128.specs.LowestTerms.{quotient_of}
use Rattle.table_entries.specs.WholeSteps.{AreShort}
use Rattle.table_entries.specs.Listed.{over}
use Rattle.frac128.specs.Rational.{int}
use Rattle.lp_model.specs.CutTerms.{term_of}
use Rattle.lp_model.proofs.ElementLemmas.{of_element-get}
use Rattle.row_tableau.specs.private.Layout.{AreRowNumbers}
use Rattle.row_tableau.specs.Activities.{activity_coefficient}
use Rattle.row_tableau.specs.Relaxations.{form_of}
use Rattle.lp_model.proofs.ModelLaws.{few_rows, few_columns}
use Rattle.row_tableau.proofs.LayoutLemmas.{few_entries}
use Rattle.row_tableau.proofs.CutLemmas.{row_activity, cut_activity, coefficient_past, cuts_written, cuts_zero, flat_read}
use Rattle.row_tableau.proofs.slack.whole_coefficients.Goals as goal

pub loop-cut-init : goal.loop-cut-init
loop-cut-init c =
    let F = form_of c.args.relax.now in
    let M = F.model in
    let rows_are : length c.rows-rows.result.now ≡ length M.rows = ap length c.rows-rows.ensures.items in
    let columns_are : length c.cols-columns.result.now ≡ length M.cols = ap length c.cols-columns.ensures.items in
    let made_list = c.in-Ok-Some.list.items in
    let made : AreRowNumbers M (length c.rows-rows.result.now + length c.args.relax.now.cuts.now) made_list =
    subst (λ o. IfSome o (λ v. AreRowNumbers M (length c.rows-rows.result.now + length c.args.relax.now.cuts.now) v.items)) c.in-Ok-Some.field-0-is c.in-Ok-Some.ensures in
    record {
      size = made.size ∙ ap (λ n. (length c.rows-rows.result.now + length c.args.relax.now.cuts.now) * n) (sym columns_are);
      written = λ i k i_within k_within.
          subst (λ n. get_or (over (pos 1) made_list) (i * n + k) (int (pos 0)) ≡ activity_coefficient F i k) (sym columns_are)
          (made.items i k (omega (arith, i_within)) (omega (arith, k_within, columns_are)) ∙ row_activity F i k (omega (arith, i_within, rows_are)));
      zeros = λ i k past i_within k_within.
          subst (λ n. get_or (over (pos 1) made_list) (i * n + k) (int (pos 0)) ≡ int (pos 0)) (sym columns_are)
          (made.items i k i_within (omega (arith, k_within, columns_are)) ∙ coefficient_past M c.cols-columns.ensures.lawful i k (omega (arith, past, rows_are)));
      short = made.short;
    }

pub loop-cut-preserved : goal.loop-cut-preserved
loop-cut-preserved c =
    let F = form_of c.args.relax.now in
    let cuts = c.args.relax.now.cuts.now in
    let rows = length c.rows-rows.result.now in
    let n = length c.cols-columns.result.now in
    let m = rows + length cuts in
    let cut = c.loop-cut.cut in
    let next = c.write_whole_cut.new.list in
    let kept : length c.write_whole_cut.new.list ≡ c.loop-cut.list.len = c.write_whole_cut.auto.list ∙ c.deref_mut.ensures.len in
    let same = with_items_is c.loop-cut.list c.write_whole_cut.new.list kept in
    let rows_are : rows ≡ length F.model.rows = ap length c.rows-rows.ensures.items in
    let cut_within : cut < length cuts = c.loop-cut-test.true in
    let terms_are : (k : ℕ) → term_of k c.as_slice.result.now ≡ activity_coefficient F (rows + cut) k =
    λ k. ap (term_of k) c.as_slice.ensures ∙ ap (λ x. term_of k x.terms) (sym c.index-cuts-cut.is) ∙ sym (of_element-get (int (pos 0)) (λ x. term_of k x.terms) cuts cut c.index-cuts-cut.result cut_within c.index-cuts-cut.is) ∙ cut_activity F rows cut k rows_are in
    let here : (k : ℕ) → k < n → get_or (over (pos 1) next) ((rows + cut) * n + k) (int (pos 0)) ≡ activity_coefficient F (rows + cut) k = λ k q. c.write_whole_cut.ensures.written c.if-not-write_whole_cut.false k q ∙ terms_are k in
    let others : (i k : ℕ) → i < m → k < n → i ≢ rows + cut → get_or (over (pos 1) next) (i * n + k) (int (pos 0)) ≡ get_or (over (pos 1) c.loop-cut.list.items) (i * n + k) (int (pos 0)) =
    λ i k p q other. c.write_whole_cut.ensures.others i k p q other ∙ ap (λ xs. get_or (over (pos 1) xs) (i * n + k) (int (pos 0))) c.deref_mut.ensures.value in
    record {
      size = ap length same ∙ kept ∙ c.loop-cut.list.ok.0 ∙ c.loop-cut.invariant.size;
      written = cuts_written F m n rows cut (over (pos 1) c.loop-cut.list.items) (over (pos 1) next) _ (ap (over (pos 1)) same) (omega (arith, cut_within)) here others c.loop-cut.invariant.written;
      zeros = cuts_zero F m n rows cut (over (pos 1) c.loop-cut.list.items) (over (pos 1) next) _ (ap (over (pos 1)) same) (omega (arith, cut_within)) here others c.loop-cut.invariant.zeros;
      short = subst AreShort (sym same) c.write_whole_cut.ensures.short;
    }

pub returns : goal.returns
returns c =
    let F = form_of c.args.relax.now in
    let cuts = c.args.relax.now.cuts.now in
    let list = over (pos 1) c.loop-cut.list.items in
    let rows_are : length c.rows-rows.result.now ≡ length F.model.rows = ap length c.rows-rows.ensures.items in
    let columns_are : length c.cols-columns.result.now ≡ length F.model.cols = ap length c.cols-columns.ensures.items in
    let past : length cuts ≤ c.loop-cut.cut = c.loop-cut-test.false in
    let own = flat_read F (length c.rows-rows.result.now + length cuts) (length c.cols-columns.result.now) list
    (λ i k p q. c.loop-cut.invariant.written i k (omega (arith, p, past)) q) in
    record {
      list = record {
        size = length-map c.loop-cut.list.items (λ k. quotient_of k (pos 1)) ∙ c.loop-cut.invariant.size ∙ (λ j. (rows_are j + length cuts) * columns_are j);
        items = λ at within. subst (λ n. get_or list at (int (pos 0)) ≡ activity_coefficient F (at / n) (at % n)) columns_are
            (own at (subst (λ P. P) (λ j. at < (sym rows_are j + length cuts) * sym columns_are j) within));
      };
      short = c.loop-cut.invariant.short;
    }

pub write_whole_cut-requires-clause-size : goal.write_whole_cut-requires-clause-size
write_whole_cut-requires-clause-size c = ap length c.deref_mut.ensures.value ∙ c.loop-cut.invariant.size

pub write_whole_cut-requires-clause-room : goal.write_whole_cut-requires-clause-room
write_whole_cut-requires-clause-room c =
    let M = c.args.relax.now.model.now in
    let rows_are : length c.rows-rows.result.now ≡ length M.rows = ap length c.rows-rows.ensures.items in
    let columns_are : length c.cols-columns.result.now ≡ length M.cols = ap length c.cols-columns.ensures.items in
    let rows_few = few_rows M c.cols-columns.ensures.lawful in
    let columns_few = few_columns M c.cols-columns.ensures.lawful in
    let few = c.requires in
    few_entries (length c.cols-columns.result.now) (length c.rows-rows.result.now + length c.args.relax.now.cuts.now) (omega (arith, rows_are, columns_are, rows_few, columns_few, few))

pub write_whole_cut-requires-clause-zeros : goal.write_whole_cut-requires-clause-zeros
write_whole_cut-requires-clause-zeros c = λ k q.
    let n = length c.cols-columns.result.now in
    let row = length c.rows-rows.result.now + c.loop-cut.cut in
    let cut_within : c.loop-cut.cut < length c.args.relax.now.cuts.now = c.loop-cut-test.true in
    ap (λ xs. get_or (over (pos 1) xs) (row * n + k) (int (pos 0))) c.deref_mut.ensures.value ∙ c.loop-cut.invariant.zeros row k (omega arith) (omega (arith, cut_within)) q

pub write_whole_cut-requires-clause-row : goal.write_whole_cut-requires-clause-row
write_whole_cut-requires-clause-row c = let less = c.loop-cut-test.true in omega (arith, less)

pub write_whole_cut-requires-clause-short : goal.write_whole_cut-requires-clause-short
write_whole_cut-requires-clause-short c = subst AreShort (sym c.deref_mut.ensures.value) c.loop-cut.invariant.short

pub overflow_add-activities : goal.overflow_add-activities
overflow_add-activities c =
    let M = c.args.relax.now.model.now in
    let rows_are : length c.rows-rows.result.now ≡ length M.rows = ap length c.rows-rows.ensures.items in
    let rows_few = few_rows M c.cols-columns.ensures.lawful in
    let few = c.requires in
    omega (arith, rows_are, rows_few, few)
