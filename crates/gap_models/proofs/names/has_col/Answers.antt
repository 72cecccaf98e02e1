use Rattle.std.proofs.Common.{◌∙◌, ◌<◌, refl, length, []}
use Rattle.std.proofs.lemmas.List.{length-map, get_or_default}
use Rattle.lp_model.specs.Lawful.{column_names}
use Rattle.gap_models.proofs.names.has_col.Goals as goal

pub returns-in-Some : goal.returns-in-Some
returns-in-Some c =
    let M = c.args.model.now in
    let k = c.in-Some.field-0.0 in
    let below : k < length (column_names M) = rw (length-map M.cols (λ c. c.name)) c.in-Some.ensures.0 in
    ((λ t. (k, below, get_or_default (column_names M) k c.args.name.now [] below ∙ c.in-Some.ensures.1)), (λ h. refl))
