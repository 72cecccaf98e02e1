use Rattle.leaf_totals.specs.Keeping.{question_by, cuts_start}
use Rattle.leaf_totals.proofs.KeptLemmas.{cuts_done, cuts_ended}
use Rattle.leaf_totals.proofs.walk.add_cuts.Goals as goal

pub returns-in-Ok-clause-walk : goal.returns-in-Ok-clause-walk
returns-in-Ok-clause-walk g c =
    let q = question_by c.args.whole.now in
    cuts_done q c.args.totals.now c.add_terms.new.totals c.requires.before c.count.result c.count.ensures c.in-Ok.ensures.kept (c.in-Ok.ensures.total (cuts_start q)) c.keep.new.self c.keep.ensures

pub returns-in-Err-clause-walk : goal.returns-in-Err-clause-walk
returns-in-Err-clause-walk g c =
    let q = question_by c.args.whole.now in
    cuts_ended q c.args.totals.now c.add_terms.new.totals c.requires.before c.count.result c.count.ensures c.in-Err.ensures.kept c.in-Err.stop (c.in-Err.ensures.stop (cuts_start q)) c.cut_end.result c.cut_end.ensures
