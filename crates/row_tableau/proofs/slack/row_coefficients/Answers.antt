use Rattle.std.proofs.Common.{◌≡◌, ◌≢◌, ◌<◌, ◌*◌, ◌+◌, ◌∙◌, sym, ap, subst, arith, length, get_or, pos, ℕ, ◌≤◌}
use Rattle.std.proofs.lemmas.List.{with_items_is}
use Rattle.frac128.specs.Rational.{int}
use Rattle.lp_model.specs.Program.{coefficient, entry_of}
use Rattle.lp_model.proofs.ElementLemmas.{of_element-read}
use Rattle.lp_model.proofs.ModelLaws.{few_columns}
use Rattle.row_tableau.proofs.ColumnLemmas.{columns_written, columns_zero}
use Rattle.row_tableau.proofs.LayoutLemmas.{few_entries}
use Rattle.row_tableau.proofs.slack.row_coefficients.Goals as goal

pub loop-col-preserved : goal.loop-col-preserved
loop-col-preserved c =
    let M = c.args.model.now in
    let n = length c.args.model.now.cols in
    let m = c.args.activities in
    let col = c.loop-col.col in
    let next = c.write_column.new.list in
    let kept : length c.write_column.new.list ≡ c.loop-col.list.len = c.write_column.auto.list ∙ c.deref_mut.ensures.len in
    let same = with_items_is c.loop-col.list c.write_column.new.list kept in
    let columns_are : length c.cols-columns.result.now ≡ n = ap length c.cols-columns.ensures.items in
    let col_within : col < n = subst (λ k. col < k) columns_are c.loop-col-test.true in
    let entries_are : (i : ℕ) → entry_of i c.as_slice.result.now ≡ coefficient M i col =
    λ i. ap (entry_of i) c.as_slice.ensures ∙ ap (λ x. entry_of i x.rows) (sym c.index-cols-col.is) ∙ of_element-read (int (pos 0)) (λ x. entry_of i x.rows) M.cols c.cols.result.now col c.index-cols-col.result c.cols.ensures.items col_within c.index-cols-col.is in
    let here : (i : ℕ) → i < m → get_or next (i * n + col) (int (pos 0)) ≡ coefficient M i col =
    λ i q. subst (λ a. get_or next (i * a + col) (int (pos 0)) ≡ coefficient M i col) columns_are (c.write_column.ensures.written i q ∙ entries_are i) in
    let others : (i k : ℕ) → i < m → k < n → k ≢ col → get_or next (i * n + k) (int (pos 0)) ≡ get_or c.loop-col.list.items (i * n + k) (int (pos 0)) =
    λ i k p q other. subst (λ a. get_or next (i * a + k) (int (pos 0)) ≡ get_or c.loop-col.list.items (i * a + k) (int (pos 0))) columns_are
    (c.write_column.ensures.others i k p (subst (λ a. k < a) (sym columns_are) q) other ∙ ap (λ xs. get_or xs (i * length c.cols-columns.result.now + k) (int (pos 0))) c.deref_mut.ensures.value) in
    record {
      size = ap length same ∙ kept ∙ c.loop-col.list.ok.0 ∙ c.loop-col.invariant.size;
      written = columns_written M m n col col_within c.loop-col.list.items next _ same here others c.loop-col.invariant.written;
      zeros = columns_zero M m n col col_within c.loop-col.list.items next _ same here others c.loop-col.invariant.zeros;
    }

pub write_column-requires-clause-size : goal.write_column-requires-clause-size
write_column-requires-clause-size c =
    let columns_are : length c.cols-columns.result.now ≡ length c.args.model.now.cols = ap length c.cols-columns.ensures.items in
    ap length c.deref_mut.ensures.value ∙ c.loop-col.invariant.size ∙ ap (λ n. c.args.activities * n) (sym columns_are)

pub write_column-requires-clause-room : goal.write_column-requires-clause-room
write_column-requires-clause-room c =
    let columns_are : length c.cols-columns.result.now ≡ length c.args.model.now.cols = ap length c.cols-columns.ensures.items in
    let columns_few = few_columns c.args.model.now c.cols-columns.ensures.lawful in
    let few = c.requires in
    few_entries (length c.cols-columns.result.now) c.args.activities (omega (arith, columns_are, columns_few, few))

pub write_column-requires-clause-zeros : goal.write_column-requires-clause-zeros
write_column-requires-clause-zeros c = λ i q.
    let columns_are : length c.cols-columns.result.now ≡ length c.args.model.now.cols = ap length c.cols-columns.ensures.items in
    let col = c.loop-col.col in
    let col_within : col < length c.args.model.now.cols = subst (λ k. col < k) columns_are c.loop-col-test.true in
    ap (λ xs. get_or xs (i * length c.cols-columns.result.now + col) (int (pos 0))) c.deref_mut.ensures.value
    ∙ subst (λ n. get_or c.loop-col.list.items (i * n + col) (int (pos 0)) ≡ int (pos 0)) (sym columns_are) (c.loop-col.invariant.zeros i col q (omega arith) col_within)

pub overflow_mul-activities : goal.overflow_mul-activities
overflow_mul-activities c =
    let columns_are : length c.cols-columns.result.now ≡ length c.args.model.now.cols = ap length c.cols-columns.ensures.items in
    let columns_few = few_columns c.args.model.now c.cols-columns.ensures.lawful in
    let few = c.requires in
    let room = few_entries (length c.cols-columns.result.now) c.args.activities (omega (arith, columns_are, columns_few, few)) in
    omega (arith, room)

pub write_column-requires-clause-col : goal.write_column-requires-clause-col
write_column-requires-clause-col c = c.loop-col-test.true

pub returns-clause-length : goal.returns-clause-length
returns-clause-length c = c.loop-col.invariant.size

pub returns-clause-items : goal.returns-clause-items
returns-clause-items c = λ i k i_within k_within.
    let columns_are : length c.cols-columns.result.now ≡ length c.args.model.now.cols = ap length c.cols-columns.ensures.items in
    let past : length c.cols-columns.result.now ≤ c.loop-col.col = c.loop-col-test.false in
    c.loop-col.invariant.written i k i_within (omega (arith, columns_are, past, k_within))
