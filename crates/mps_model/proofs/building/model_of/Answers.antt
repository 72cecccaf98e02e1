use Rattle.std.proofs.Common.{sym, subst, ◌∙◌}
use Rattle.std.specs.Prelude.{All}
use Rattle.lp_model.specs.Lawful.{IsRange, IsLawful}
use Rattle.lp_model.specs.declared.types.Row.{Row}
use Rattle.mps_model.proofs.LawfulModels.{meant-lawful, parts_are}
use Rattle.mps_model.proofs.building.model_of.Goals as goal

pub of_parts-requires : goal.of_parts-requires
of_parts-requires c =
    let s = c.args.sections.now in
    let parts = c.in-Ok.parts in
    let names = c.in-Ok-objective_names.names in
    let same = parts_are s c.args.intupper names.0 names.1 c.constant_of.result c.second_constant_of.result parts.0 parts.1 c.in-Ok-objective_names.ensures.first c.in-Ok-objective_names.ensures.second c.constant_of.ensures c.second_constant_of.ensures c.in-Ok.ensures.rows c.in-Ok.ensures.columns in
    let ranges = subst (All (λ (r : Row). IsRange r.lo r.hi)) c.in-Ok.ensures.rows c.in-Ok.ensures.ranges in
    subst IsLawful (sym same) (meant-lawful s c.args.intupper c.requires.limits c.requires.bounded ranges)

pub returns-in-Ok-objective_names : goal.returns-in-Ok-objective_names
returns-in-Ok-objective_names c =
    let s = c.args.sections.now in
    let parts = c.in-Ok.parts in
    let names = c.in-Ok-objective_names.names in
    c.of_parts.ensures
    ∙ parts_are s c.args.intupper names.0 names.1 c.constant_of.result c.second_constant_of.result parts.0 parts.1 c.in-Ok-objective_names.ensures.first c.in-Ok-objective_names.ensures.second c.constant_of.ensures c.second_constant_of.ensures c.in-Ok.ensures.rows c.in-Ok.ensures.columns
