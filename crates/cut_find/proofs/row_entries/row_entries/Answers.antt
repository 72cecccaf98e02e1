use Rattle.std.proofs.Common.{◌≡◌, ◌∙◌, ◌+◌, ℕ, List, sym, ap, subst, arith, suc, [], length}
use Rattle.std.proofs.lemmas.List.{length-replicate, with_items_is}
use Rattle.frac128.specs.Rational.{ℚ}
use Rattle.cut_find.specs.RowEntries.{AreRowsTo}
use Rattle.cut_find.proofs.ColumnLemmas.{no_rows}
use Rattle.cut_find.proofs.row_entries.row_entries.Goals as goal

pub loop-col-init : goal.loop-col-init
loop-col-init c =
    let M = c.args.model.now in
    let n = length c.rows.result.now in
    let nil : List (ℕ × ℚ) = [] in
    record {
      long = ap length c.in-Ok.ensures ∙ length-replicate n nil ∙ ap length c.rows.ensures.items;
      rows = subst (AreRowsTo M 0) (sym c.in-Ok.ensures) (no_rows M n);
    }

pub add_column-requires-clause-before : goal.add_column-requires-clause-before
add_column-requires-clause-before c = subst (AreRowsTo c.args.model.now c.loop-col.col) (sym c.deref_mut.ensures.value) c.loop-col.invariant.rows

pub loop-col-preserved : goal.loop-col-preserved
loop-col-preserved c =
    let M = c.args.model.now in
    let l = c.loop-col in
    let col = l.col in
    let next = c.add_column.new.rows in
    let kept : length next ≡ l.rows.len = c.add_column.auto.rows ∙ c.deref_mut.ensures.len in
    let same = with_items_is l.rows next kept in
    let more : suc col ≡ col + 1 = omega arith in
    record {
      long = ap length same ∙ kept ∙ l.rows.ok.0 ∙ l.invariant.long;
      rows = subst (AreRowsTo M (col + 1)) (sym same) (subst (λ n. AreRowsTo M n next) more c.in-Ok-add_column.ensures);
    }

pub returns-clause-entries : goal.returns-clause-entries
returns-clause-entries c =
    let M = c.args.model.now in
    let l = c.loop-col in
    let all : l.col ≡ length M.cols = let past = c.loop-col-test.false in let below = l.auto.col-end in let items = ap length c.cols-col-end.ensures.items in omega (arith, past, below, items) in
    subst (λ n. AreRowsTo M n l.rows.items) all l.invariant.rows
