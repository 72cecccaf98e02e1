use Rattle.mps_sections.proofs.ListFacts.{holds_on_ok}
use Rattle.mps_sections.proofs.rows.add_objective.Goals as goal

pub returns-clause-known : goal.returns-clause-known
returns-clause-known c = holds_on_ok c.push.result c.in-Ok.ensures
