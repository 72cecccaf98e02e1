use Rattle.std.proofs.Common.{◌∙◌, ◌++◌, ◌∷◌, [], sym, ap, arith}
use Rattle.std.proofs.lemmas.List.{take_all}
use Rattle.kept_cuts.proofs.KeptLemmas.{take-next}
use Rattle.node_solve.proofs.cuts.copies.Goals as goal

pub loop-cut-preserved : goal.loop-cut-preserved
loop-cut-preserved c =
    let l = c.loop-cut in
    c.in-Ok-push_copy.ensures ∙ ap (λ xs. xs ++ c.cut-item.result ∷ []) l.invariant ∙ sym (take-next c.args.cuts.now l.cut-index c.cut-item.result c.loop-cut-test.true c.cut-item.is)

pub returns : goal.returns
returns c = c.loop-cut.invariant ∙ take_all c.loop-cut.cut-index c.args.cuts.now (omega (arith, c.loop-cut-test.false))
