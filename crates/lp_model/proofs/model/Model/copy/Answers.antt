use Rattle.std.proofs.Common.{List, ◌∙◌, ap, sym, subst}
use Rattle.std.proofs.lemmas.Result.{IfOk-weaker}
use Rattle.lp_model.specs.Program.{Program}
use Rattle.lp_model.specs.Lawful.{IsLawful}
use Rattle.lp_model.specs.declared.types.Col.{Col}
use Rattle.lp_model.proofs.model.Model.copy.Goals as goal

pub with_cols-requires : goal.with_cols-requires
with_cols-requires c =
    let same = c.in-Ok.ensures ∙ ap (λ (p : Program). p.cols) c.self.view_is in
    subst (λ (cols : List Col). IsLawful (record c.args.self.now { cols = cols })) (sym same) (subst IsLawful c.self.view_is c.self.invariant)

pub returns-in-Ok : goal.returns-in-Ok
returns-in-Ok c =
    let same = c.in-Ok.ensures ∙ ap (λ (p : Program). p.cols) c.self.view_is in
    IfOk-weaker c.with_cols.result _ _ (λ _ h. h ∙ ap (λ (cols : List Col). record c.args.self.now { cols = cols }) same) c.with_cols.ensures
