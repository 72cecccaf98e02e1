use Rattle.std.proofs.Common.{◌≡◌, ◌∙◌, sym, ap, subst, arith, suc, [], ◌∷◌, ◌++◌, ◌≤◌, ◌+◌, length, set}
use Rattle.std.proofs.lemmas.List.{get_or_read}
use Rattle.cut_find.proofs.ColumnLemmas.{column_lawful, column_coefficient, AreRowsBelow, rows_begin, rows_end, entry_within, rows_more}
use Rattle.cut_find.proofs.row_entries.add_column.Goals as goal

pub loop-entry-init : goal.loop-entry-init
loop-entry-init c =
    let M = c.args.model.now in
    let j = c.args.col in
    let col = c.index-cols-col.result in
    let entries = c.as_slice-entry-items.result.now in
    let is = c.as_slice-entry-items.ensures ∙ ap (λ d. d.rows) (sym c.index-cols-col.is) in
    let lawful = column_lawful M c.cols.ensures.lawful j c.requires.within c.cols.result.now col c.cols.ensures.items c.index-cols-col.is entries is in
    let column = column_coefficient M c.cols.ensures.lawful j c.requires.within c.cols.result.now col c.cols.ensures.items c.index-cols-col.is entries is in
    (0, rows_begin M j entries column c.args.rows.now lawful c.requires.before)

pub bounds-rows-entry : goal.bounds-rows-entry
bounds-rows-entry c =
    let M = c.args.model.now in
    let j = c.args.col in
    let col = c.index-cols-col.result in
    let entries = c.as_slice-entry-items.result.now in
    let is = c.as_slice-entry-items.ensures ∙ ap (λ d. d.rows) (sym c.index-cols-col.is) in
    let column = column_coefficient M c.cols.ensures.lawful j c.requires.within c.cols.result.now col c.cols.ensures.items c.index-cols-col.is entries is in
    let l = c.loop-entry in
    let long : length l.rows ≡ length M.rows = let a = l.auto.rows in let b = c.requires.long in omega (arith, a, b) in
    entry_within M j entries column l.entry-index l.invariant.0 l.rows l.invariant.1 c.entry-item.result c.loop-entry-test.true c.entry-item.is long

pub loop-entry-preserved : goal.loop-entry-preserved
loop-entry-preserved c =
    let M = c.args.model.now in
    let j = c.args.col in
    let col = c.index-cols-col.result in
    let entries = c.as_slice-entry-items.result.now in
    let is = c.as_slice-entry-items.ensures ∙ ap (λ d. d.rows) (sym c.index-cols-col.is) in
    let column = column_coefficient M c.cols.ensures.lawful j c.requires.within c.cols.result.now col c.cols.ensures.items c.index-cols-col.is entries is in
    let l = c.loop-entry in
    let e = c.entry-item.result in
    let at = e.0.0 in
    let long : length l.rows ≡ length M.rows = let a = l.auto.rows in let b = c.requires.long in omega (arith, a, b) in
    let below = c.loop-entry-test.true in
    let within = entry_within M j entries column l.entry-index l.invariant.0 l.rows l.invariant.1 e below c.entry-item.is long in
    let more = rows_more M j entries column l.entry-index l.invariant.0 l.rows l.invariant.1 e below c.entry-item.is long in
    let read = get_or_read l.rows at c.index-rows-entry.result within c.index-rows-entry.is [] in
    let pushed = c.in-Ok.ensures.pushed ∙ ap (λ r. r ++ (j, e.1) ∷ []) (sym c.index-rows-entry.is ∙ read) in
    (suc at, subst (λ r. AreRowsBelow M j entries (l.entry-index + 1) (suc at) (set l.rows at r)) (sym pushed) more)

pub returns : goal.returns
returns c =
    let M = c.args.model.now in
    let j = c.args.col in
    let col = c.index-cols-col.result in
    let entries = c.as_slice-entry-items.result.now in
    let is = c.as_slice-entry-items.ensures ∙ ap (λ d. d.rows) (sym c.index-cols-col.is) in
    let column = column_coefficient M c.cols.ensures.lawful j c.requires.within c.cols.result.now col c.cols.ensures.items c.index-cols-col.is entries is in
    let l = c.loop-entry in
    let past : length entries ≤ l.entry-index = let h = c.loop-entry-test.false in omega (arith, h) in
    rows_end M j entries column l.entry-index l.invariant.0 l.rows l.invariant.1 past
