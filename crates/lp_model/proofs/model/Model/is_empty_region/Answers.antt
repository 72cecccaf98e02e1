use Rattle.std.proofs.Common.{inl, inr, ◌∙◌, sym}
use Rattle.std.proofs.lemmas.Bool.{false≢true}
use Rattle.lp_model.proofs.EmptyRegionLemmas.{empty-own, empty-named, empty-split}
use Rattle.lp_model.proofs.model.Model.is_empty_region.Goals as goal

pub returns-then-has_empty_column : goal.returns-then-has_empty_column
returns-then-has_empty_column c =
    let M = c.args.self.now in
    let path = c.args.region.now in
    ((λ t. empty-own M path (c.has_empty_column.ensures.0 t)), (λ e. c.if-has_empty_column.true))

pub returns-else-has_empty_column : goal.returns-else-has_empty_column
returns-else-has_empty_column c =
    let M = c.args.self.now in
    let path = c.args.region.now in (
      (λ t. empty-named M path (c.is_empty_where_named.ensures.0 t)),
      (λ e. c.is_empty_where_named.ensures.1 (elim (empty-split M path e) [ inl own ↦ absurd (false≢true (sym c.if-has_empty_column.false ∙ c.has_empty_column.ensures.1 own)) | inr named ↦ named ])),
    )
