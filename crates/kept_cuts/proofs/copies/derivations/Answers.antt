use Rattle.std.proofs.Common.{◌∙◌, ◌∷◌, ◌++◌, [], take, sym, ap, arith}
use Rattle.std.proofs.lemmas.List.{map-append, take_all}
use Rattle.lp_model.specs.declared.types.CutRow.{CutRow}
use Rattle.kept_cuts.specs.Kept.{derivations_of}
use Rattle.kept_cuts.proofs.KeptLemmas.{take-next}
use Rattle.kept_cuts.proofs.copies.derivations.Goals as goal

pub loop-cut-preserved : goal.loop-cut-preserved
loop-cut-preserved c =
    let cuts = c.args.cuts.now in
    let i = c.loop-cut.cut-index in
    let cut = c.cut-item.result in
    c.in-Ok-push.ensures.pushed
    ∙ ap (λ d. c.loop-cut.list ++ d ∷ []) c.in-Ok.ensures
    ∙ ap (λ l. l ++ cut.from ∷ []) c.loop-cut.invariant
    ∙ sym (map-append (λ (x : CutRow). x.from) (take i cuts) (cut ∷ []))
    ∙ ap derivations_of (sym (take-next cuts i cut c.loop-cut-test.true c.cut-item.is))

pub returns : goal.returns
returns c = c.loop-cut.invariant ∙ ap derivations_of (take_all c.loop-cut.cut-index c.args.cuts.now (omega (arith, c.loop-cut-test.false)))
