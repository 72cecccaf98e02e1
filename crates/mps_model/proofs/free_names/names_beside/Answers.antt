use Rattle.std.proofs.Common.{ℕ, List, ap, ◌∙◌}
use Rattle.std.specs.Prelude.{codes}
use Rattle.mps_model.specs.Meaning.{objective_or, free_name}
use Rattle.mps_model.proofs.free_names.names_beside.Goals as goal

pub returns-in-Ok-second_behind-clause-first : goal.returns-in-Ok-second_behind-clause-first
returns-in-Ok-second_behind-clause-first c = c.in-Ok.ensures ∙ ap (λ (names : List (List ℕ)). objective_or c.args.objectives.now (free_name names (codes "OBJ"))) c.as_slice.ensures
