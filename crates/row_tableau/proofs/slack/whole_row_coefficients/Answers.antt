use Rattle.std.proofs.Common.{◌≡◌, ◌≢◌, ◌<◌, ◌*◌, ◌+◌, ◌∙◌, sym, ap, subst, arith, length, get_or, pos, ℕ, ◌≤◌}
use Rattle.std.proofs.lemmas.List.{with_items_is, length-replicate}
use Rattle.table_entries.specs.WholeSteps.{AreShort}
use Rattle.table_entries.specs.Listed.{over}
use Rattle.frac128.specs.Rational.{int}
use Rattle.lp_model.specs.Program.{coefficient, entry_of}
use Rattle.lp_model.proofs.ElementLemmas.{of_element-read}
use Rattle.lp_model.proofs.ModelLaws.{few_columns}
use Rattle.row_tableau.proofs.ColumnLemmas.{columns_written, columns_zero}
use Rattle.row_tableau.proofs.NumberLemmas.{nothing_written, none_short}
use Rattle.row_tableau.proofs.LayoutLemmas.{few_entries}
use Rattle.row_tableau.proofs.slack.whole_row_coefficients.Goals as goal

pub loop-col-preserved : goal.loop-col-preserved
loop-col-preserved c =
    let M = c.args.model.now in
    let n = length c.args.model.now.cols in
    let m = c.args.activities in
    let col = c.loop-col.col in
    let next = c.write_whole_column.new.list in
    let kept : length c.write_whole_column.new.list ≡ c.loop-col.list.len = c.write_whole_column.auto.list ∙ c.deref_mut.ensures.len in
    let same = with_items_is c.loop-col.list c.write_whole_column.new.list kept in
    let columns_are : length c.cols-columns.result.now ≡ n = ap length c.cols-columns.ensures.items in
    let col_within : col < n = subst (λ k. col < k) columns_are c.loop-col-test.true in
    let done = c.if-not-write_whole_column.false in
    let entries_are : (i : ℕ) → entry_of i c.as_slice.result.now ≡ coefficient M i col =
    λ i. ap (entry_of i) c.as_slice.ensures ∙ ap (λ x. entry_of i x.rows) (sym c.index-cols-col.is) ∙ of_element-read (int (pos 0)) (λ x. entry_of i x.rows) M.cols c.cols.result.now col c.index-cols-col.result c.cols.ensures.items col_within c.index-cols-col.is in
    let here : (i : ℕ) → i < m → get_or (over (pos 1) next) (i * n + col) (int (pos 0)) ≡ coefficient M i col =
    λ i q. subst (λ a. get_or (over (pos 1) next) (i * a + col) (int (pos 0)) ≡ coefficient M i col) columns_are (c.write_whole_column.ensures.written done i q ∙ entries_are i) in
    let others : (i k : ℕ) → i < m → k < n → k ≢ col → get_or (over (pos 1) next) (i * n + k) (int (pos 0)) ≡ get_or (over (pos 1) c.loop-col.list.items) (i * n + k) (int (pos 0)) =
    λ i k p q other. subst (λ a. get_or (over (pos 1) next) (i * a + k) (int (pos 0)) ≡ get_or (over (pos 1) c.loop-col.list.items) (i * a + k) (int (pos 0))) columns_are
    (c.write_whole_column.ensures.others i k p (subst (λ a. k < a) (sym columns_are) q) other ∙ ap (λ xs. get_or (over (pos 1) xs) (i * length c.cols-columns.result.now + k) (int (pos 0))) c.deref_mut.ensures.value) in
    record {
      size = ap length same ∙ kept ∙ c.loop-col.list.ok.0 ∙ c.loop-col.invariant.size;
      written = columns_written M m n col col_within (over (pos 1) c.loop-col.list.items) (over (pos 1) next) _ (ap (over (pos 1)) same) here others c.loop-col.invariant.written;
      zeros = columns_zero M m n col col_within (over (pos 1) c.loop-col.list.items) (over (pos 1) next) _ (ap (over (pos 1)) same) here others c.loop-col.invariant.zeros;
      short = subst AreShort (sym same) c.write_whole_column.ensures.short;
    }

pub write_whole_column-requires-clause-size : goal.write_whole_column-requires-clause-size
write_whole_column-requires-clause-size c =
    let columns_are : length c.cols-columns.result.now ≡ length c.args.model.now.cols = ap length c.cols-columns.ensures.items in
    ap length c.deref_mut.ensures.value ∙ c.loop-col.invariant.size ∙ ap (λ n. c.args.activities * n) (sym columns_are)

pub write_whole_column-requires-clause-room : goal.write_whole_column-requires-clause-room
write_whole_column-requires-clause-room c =
    let columns_are : length c.cols-columns.result.now ≡ length c.args.model.now.cols = ap length c.cols-columns.ensures.items in
    let columns_few = few_columns c.args.model.now c.cols-columns.ensures.lawful in
    let few = c.requires in
    few_entries (length c.cols-columns.result.now) c.args.activities (omega (arith, columns_are, columns_few, few))

pub write_whole_column-requires-clause-zeros : goal.write_whole_column-requires-clause-zeros
write_whole_column-requires-clause-zeros c = λ i q.
    let columns_are : length c.cols-columns.result.now ≡ length c.args.model.now.cols = ap length c.cols-columns.ensures.items in
    let col = c.loop-col.col in
    let col_within : col < length c.args.model.now.cols = subst (λ k. col < k) columns_are c.loop-col-test.true in
    ap (λ xs. get_or (over (pos 1) xs) (i * length c.cols-columns.result.now + col) (int (pos 0))) c.deref_mut.ensures.value
    ∙ subst (λ n. get_or (over (pos 1) c.loop-col.list.items) (i * n + col) (int (pos 0)) ≡ int (pos 0)) (sym columns_are) (c.loop-col.invariant.zeros i col q (omega arith) col_within)

pub overflow_mul-activities : goal.overflow_mul-activities
overflow_mul-activities c =
    let columns_are : length c.cols-columns.result.now ≡ length c.args.model.now.cols = ap length c.cols-columns.ensures.items in
    let columns_few = few_columns c.args.model.now c.cols-columns.ensures.lawful in
    let few = c.requires in
    let room = few_entries (length c.cols-columns.result.now) c.args.activities (omega (arith, columns_are, columns_few, few)) in
    omega (arith, room)

pub write_whole_column-requires-clause-col : goal.write_whole_column-requires-clause-col
write_whole_column-requires-clause-col c = c.loop-col-test.true

pub write_whole_column-requires-clause-short : goal.write_whole_column-requires-clause-short
write_whole_column-requires-clause-short c = subst AreShort (sym c.deref_mut.ensures.value) c.loop-col.invariant.short

pub loop-col-init : goal.loop-col-init
loop-col-init c =
    let columns_are : length c.cols-columns.result.now ≡ length c.args.model.now.cols = ap length c.cols-columns.ensures.items in
    let made = c.in-Ok.ensures.items_if_clones_equal (λ y e. e) in
    let n = c.args.activities * length c.cols-columns.result.now in
    record {
      size = ap length made ∙ length-replicate n (pos 0) ∙ ap (λ k. c.args.activities * k) columns_are;
      written = λ i k p q. absurd (omega (arith, q));
      zeros = λ i k p q r. ap (λ xs. get_or (over (pos 1) xs) (i * length c.args.model.now.cols + k) (int (pos 0))) made ∙ nothing_written n (i * length c.args.model.now.cols + k);
      short = subst AreShort (sym made) (none_short n);
    }

pub returns : goal.returns
returns c = record {
  size = c.loop-col.invariant.size;
  items = λ i k i_within k_within.
      let columns_are : length c.cols-columns.result.now ≡ length c.args.model.now.cols = ap length c.cols-columns.ensures.items in
      let past : length c.cols-columns.result.now ≤ c.loop-col.col = c.loop-col-test.false in
      c.loop-col.invariant.written i k i_within (omega (arith, columns_are, past, k_within));
  short = c.loop-col.invariant.short;
}
