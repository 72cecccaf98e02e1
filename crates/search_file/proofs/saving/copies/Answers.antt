use Rattle.std.proofs.Common.{◌∙◌, ◌++◌, ◌∷◌, [], sym, arith}
use Rattle.std.proofs.lemmas.List.{take_all}
use Rattle.kept_cuts.proofs.KeptLemmas.{take-next}
use Rattle.search_file.proofs.saving.copies.Goals as goal

pub loop-point-preserved : goal.loop-point-preserved
loop-point-preserved c =
    let x = c.point-item.result in
    c.in-Ok-push.ensures.pushed
    ∙ (λ i. c.loop-point.invariant i ++ (c.in-Ok.ensures ∙ c.as_slice.ensures) i ∷ [])
    ∙ sym (take-next c.args.points.now c.loop-point.point-index x c.loop-point-test.true c.point-item.is)

pub returns : goal.returns
returns c = c.loop-point.invariant ∙ take_all c.loop-point.point-index c.args.points.now (omega (arith, c.loop-point-test.false))
