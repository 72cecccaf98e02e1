use Rattle.std.proofs.Common.{◌∙◌, ap}
use Rattle.leaf_totals.specs.Keeping.{question_by, rows_start}
use Rattle.leaf_totals.proofs.KeptLemmas.{rows_done, rows_ended}
use Rattle.leaf_totals.proofs.walk.add_rows.Goals as goal

pub returns-in-Ok-clause-walk : goal.returns-in-Ok-clause-walk
returns-in-Ok-clause-walk g c =
    let q = question_by c.args.whole.now in
    rows_done q c.begin.new.self c.add_terms.new.totals (ap (λ t. t.total) c.begin.ensures ∙ c.constant.ensures) (ap (λ t. t.kept) c.begin.ensures) c.count.result c.count.ensures c.in-Ok.ensures.kept
    (c.in-Ok.ensures.total (rows_start q)) c.keep.new.self c.keep.ensures

pub returns-in-Err-clause-walk : goal.returns-in-Err-clause-walk
returns-in-Err-clause-walk g c =
    let q = question_by c.args.whole.now in
    rows_ended q c.begin.new.self c.add_terms.new.totals (ap (λ t. t.total) c.begin.ensures ∙ c.constant.ensures) (ap (λ t. t.kept) c.begin.ensures) c.count.result c.count.ensures c.in-Err.ensures.kept
    c.in-Err.stop (c.in-Err.ensures.stop (rows_start q)) c.row_end.result c.row_end.ensures
