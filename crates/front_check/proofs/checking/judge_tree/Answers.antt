use Rattle.std.proofs.Common.{◌∙◌, subst}
use Rattle.std.proofs.lemmas.Result.{IfOk-weaker}
use Rattle.lp_model.specs.Formulations.{formulation}
use Rattle.cert_check.specs.Cuts.{formulation_by, AreCutsFound}
use Rattle.cert_check.specs.Trees.{IsTreeVerdict}
use Rattle.cert_check.proofs.ClaimVerdicts.{rows-are}
use Rattle.front_check.proofs.checking.judge_tree.Goals as goal

pub returns-in-Ok : goal.returns-in-Ok
returns-in-Ok c =
    let part = c.args.part.now in
    let tree = c.args.tree.now in
    let found = subst (λ cuts. AreCutsFound part.model cuts c.in-Ok.found) c.as_slice-cuts.ensures c.in-Ok.ensures in
    let rows = c.standing_rows-rows.ensures ∙ rows-are part.model tree.cuts c.in-Ok.found found c.requires.cuts in
    IfOk-weaker c.check_tree.result _ (IsTreeVerdict (formulation_by part.model tree.cuts) part.claim tree.nodes)
    (λ v h. subst (λ nodes. IsTreeVerdict (formulation_by part.model tree.cuts) part.claim nodes v) c.as_slice.ensures (subst (λ rs. IsTreeVerdict (formulation part.model rs) part.claim c.as_slice.result.now v) rows h))
    c.check_tree.ensures
