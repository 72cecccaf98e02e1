use Rattle.std.proofs.Common.{List, ◌∙◌, ap, sym, subst, map}
use Rattle.std.proofs.lemmas.Result.{IfOk-weaker}
use Rattle.lp_model.specs.Lawful.{IsLawful}
use Rattle.lp_model.specs.declared.types.Col.{Col}
use Rattle.inner_models.specs.Inner.{costed}
use Rattle.inner_models.proofs.LawfulCopies.{objective-lawful}
use Rattle.gap_models.proofs.models.least2_model.Goals as goal

pub with_cols-requires : goal.with_cols-requires
with_cols-requires c =
    let same = c.in-Ok.ensures ∙ ap (map (costed (λ (c : Col). c.cost2))) c.cols.ensures.items in
    subst (λ (cols : List Col). IsLawful (record c.args.model.now { cols = cols })) (sym same) (objective-lawful (λ c. c.cost2) c.args.model.now c.cols.ensures.lawful)

pub returns-in-Ok : goal.returns-in-Ok
returns-in-Ok c =
    let same = c.in-Ok.ensures ∙ ap (map (costed (λ (c : Col). c.cost2))) c.cols.ensures.items in
    IfOk-weaker c.with_cols.result _ _ (λ _ h. h ∙ ap (λ (cols : List Col). record c.args.model.now { cols = cols }) same) c.with_cols.ensures
