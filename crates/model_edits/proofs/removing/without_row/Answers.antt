use Rattle.std.proofs.Common.{◌∙◌, ◌++◌, ◌∷◌, [], sym, ap, map, arith}
use Rattle.std.proofs.lemmas.List.{take_all}
use Rattle.lp_model.specs.Edits.{without_entry}
use Rattle.model_edits.proofs.ListLemmas.{map_next}
use Rattle.model_edits.proofs.removing.without_row.Goals as goal

pub loop-col-preserved : goal.loop-col-preserved
loop-col-preserved c =
    c.in-Ok-push.ensures.pushed
    ∙ (λ i. c.loop-col.invariant i ++ c.in-Ok.ensures i ∷ [])
    ∙ sym (map_next (without_entry c.args.row) c.args.cols.now c.loop-col.col-index c.col-item.result c.loop-col-test.true c.col-item.is)

pub returns : goal.returns
returns c = c.loop-col.invariant ∙ ap (map (without_entry c.args.row)) (take_all c.loop-col.col-index c.args.cols.now (omega (arith, c.loop-col-test.false)))
