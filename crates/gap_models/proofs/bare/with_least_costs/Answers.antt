use Rattle.std.proofs.Common.{List, ◌∙◌, ap, sym, subst, map}
use Rattle.std.proofs.lemmas.Result.{IfOk-weaker}
use Rattle.lp_model.specs.Lawful.{IsLawful}
use Rattle.lp_model.specs.declared.types.Col.{Col}
use Rattle.inner_models.specs.Inner.{least_col}
use Rattle.inner_models.proofs.LawfulCopies.{narrow-lawful}
use Rattle.gap_models.proofs.bare.with_least_costs.Goals as goal

pub with_cols-requires : goal.with_cols-requires
with_cols-requires c =
    let M = c.args.model.now in
    let same = c.in-Ok.ensures ∙ (λ i. map (least_col (c.sense.ensures i)) (c.cols.ensures.items i)) in
    let narrow = narrow-lawful M c.cols.ensures.lawful in
    subst (λ (cols : List Col). IsLawful (record M { cols = cols })) (sym same) (record {
      constants = c.cols.ensures.lawful.constants;
      ranges = narrow.ranges;
      columns = narrow.columns;
      rows_distinct = narrow.rows_distinct;
      columns_distinct = narrow.columns_distinct;
      limits = narrow.limits;
    })

pub returns-in-Ok : goal.returns-in-Ok
returns-in-Ok c =
    let same = c.in-Ok.ensures ∙ (λ i. map (least_col (c.sense.ensures i)) (c.cols.ensures.items i)) in
    IfOk-weaker c.with_cols.result _ _ (λ _ h. h ∙ ap (λ (cols : List Col). record c.args.model.now { cols = cols }) same) c.with_cols.ensures
