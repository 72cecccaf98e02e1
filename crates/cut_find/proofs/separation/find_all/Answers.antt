use Rattle.std.proofs.Common.{◌≡◌, ◌∙◌, ◌+◌, ◌<◌, sym, ap, subst, arith, suc, [], length}
use Rattle.std.proofs.lemmas.List.{get_or_read}
use Rattle.cut_find.specs.RowEntries.{AreEntriesOf}
use Rattle.cut_find.specs.Separation.{FindsBelow}
use Rattle.cut_find.proofs.separation.find_all.Goals as goal

pub bounds-rows-row : goal.bounds-rows-row
bounds-rows-row c = subst (λ n. c.loop-row.row < n) (ap length c.rows-row-end.ensures.items ∙ sym c.requires.long) c.loop-row-test.true

pub find_row-requires-clause-entries : goal.find_row-requires-clause-entries
find_row-requires-clause-entries c =
    let M = c.args.model.now in
    let row = c.loop-row.row in
    let within : row < length c.args.rows.now = subst (λ n. row < n) (ap length c.rows-row-end.ensures.items ∙ sym c.requires.long) c.loop-row-test.true in
    let read = get_or_read c.args.rows.now row c.index-rows-row.result within c.index-rows-row.is [] in
    subst (AreEntriesOf M row 0 (length M.cols)) (sym (c.as_slice.ensures ∙ read)) (c.requires.entries row within)

pub find_row-requires-clause-marks : goal.find_row-requires-clause-marks
find_row-requires-clause-marks c = c.loop-row.auto.marks ∙ c.requires.marks

pub loop-row-preserved : goal.loop-row-preserved
loop-row-preserved c =
    let next : suc c.loop-row.row ≡ c.loop-row.row + 1 = omega arith in
    subst (λ n. FindsBelow c.args.model.now c.args.numbers.now c.args.max n c.find_row.new.found.items) next c.in-Ok.ensures

pub returns : goal.returns
returns c =
    let M = c.args.model.now in
    let all : c.loop-row.row ≡ length M.rows = let past = c.loop-row-test.false in let below = c.loop-row.auto.row-end in let items = ap length c.rows-row-end.ensures.items in omega (arith, past, below, items) in
    subst (λ n. FindsBelow M c.args.numbers.now c.args.max n c.loop-row.found.items) all c.loop-row.invariant
