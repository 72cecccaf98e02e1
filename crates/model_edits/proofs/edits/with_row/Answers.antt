use Rattle.std.proofs.Common.{◌∙◌, ◌++◌, ◌∷◌, [], sym, ap, map, arith}
use Rattle.std.proofs.lemmas.List.{take_all}
use Rattle.lp_model.specs.Edits.{number_beside, with_entry}
use Rattle.lp_model.specs.declared.types.Col.{Col}
use Rattle.model_edits.proofs.ListLemmas.{map_next}
use Rattle.model_edits.proofs.edits.with_row.Goals as goal

pub loop-col-preserved : goal.loop-col-preserved
loop-col-preserved c =
    let f = λ (d : Col). with_entry c.args.row.0 (number_beside d.name c.args.named.now) d in
    let longer = c.in-Ok.ensures ∙ ap (λ n. with_entry c.args.row.0 n c.col-item.result) c.number_beside-number.ensures in
    c.in-Ok-push.ensures.pushed
    ∙ (λ i. c.loop-col.invariant i ++ longer i ∷ [])
    ∙ sym (map_next f c.args.cols.now c.loop-col.col-index c.col-item.result c.loop-col-test.true c.col-item.is)

pub returns : goal.returns
returns c =
    let f = λ (d : Col). with_entry c.args.row.0 (number_beside d.name c.args.named.now) d in
    c.loop-col.invariant ∙ ap (map f) (take_all c.loop-col.col-index c.args.cols.now (omega (arith, c.loop-col-test.false)))
