use Rattle.std.proofs.Common.{◌∙◌, ap}
use Rattle.kept_cuts.specs.Kept.{derivations_of}
use Rattle.search_file.proofs.saving.model_and_cuts.Goals as goal

pub returns-in-Ok-derivations-clause-model : goal.returns-in-Ok-derivations-clause-model
returns-in-Ok-derivations-clause-model c = c.in-Ok.ensures ∙ c.model.ensures

pub returns-in-Ok-derivations-clause-cuts : goal.returns-in-Ok-derivations-clause-cuts
returns-in-Ok-derivations-clause-cuts c = c.in-Ok-derivations.ensures ∙ ap derivations_of (c.rows.ensures.rows ∙ c.pool.ensures.pool)
