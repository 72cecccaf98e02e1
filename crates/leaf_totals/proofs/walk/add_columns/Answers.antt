use Rattle.std.proofs.Common.{◌-◌, ap}
use Rattle.leaf_totals.specs.Keeping.{question_by, columns_start}
use Rattle.leaf_totals.proofs.KeptLemmas.{columns_done, columns_ended, columns_keep}
use Rattle.leaf_totals.proofs.walk.add_columns.Goals as goal

pub returns-in-Ok-clause-walk : goal.returns-in-Ok-clause-walk
returns-in-Ok-clause-walk g c =
    let q = question_by c.args.whole.now in
    columns_done q c.requires.rows c.requires.cuts c.args.totals.now c.add_blocks.new.totals c.requires.some c.requires.few (c.count-blocks.result - 2) (ap (λ n. n - 2) c.count-blocks.ensures) c.requires.before
    (c.in-Ok.ensures.total (columns_start q)) c.in-Ok.ensures.all_kept

pub returns-in-Err-clause-walk : goal.returns-in-Err-clause-walk
returns-in-Err-clause-walk g c =
    let q = question_by c.args.whole.now in
    columns_ended q c.requires.rows c.requires.cuts c.args.totals.now c.add_blocks.new.totals c.requires.some c.requires.few (c.count-blocks.result - 2) (ap (λ n. n - 2) c.count-blocks.ensures) c.requires.before
    c.in-Err.stop (c.in-Err.ensures.stop (columns_start q)) c.in-Err.ensures.from c.in-Err.ensures.count c.column_end.result c.column_end.ensures

pub returns-in-Ok-clause-kept : goal.returns-in-Ok-clause-kept
returns-in-Ok-clause-kept g c =
    let q = question_by c.args.whole.now in
    columns_keep q c.requires.rows c.requires.cuts c.args.totals.now c.add_blocks.new.totals c.requires.some c.requires.few (c.count-blocks.result - 2) (ap (λ n. n - 2) c.count-blocks.ensures) c.requires.before
    c.requires.kept (c.in-Ok.ensures.kept (columns_start q))

pub returns-in-Err-clause-kept : goal.returns-in-Err-clause-kept
returns-in-Err-clause-kept g c =
    let q = question_by c.args.whole.now in
    columns_keep q c.requires.rows c.requires.cuts c.args.totals.now c.add_blocks.new.totals c.requires.some c.requires.few (c.count-blocks.result - 2) (ap (λ n. n - 2) c.count-blocks.ensures) c.requires.before
    c.requires.kept (c.in-Err.ensures.kept (columns_start q))
