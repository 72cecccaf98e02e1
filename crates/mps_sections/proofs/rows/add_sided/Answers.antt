use Rattle.mps_sections.proofs.ListFacts.{holds_on_ok}
use Rattle.mps_sections.proofs.rows.add_sided.Goals as goal

pub returns-clause-known : goal.returns-clause-known
returns-clause-known c = holds_on_ok c.push.result c.in-Ok.ensures

pub returns-clause-with_sides : goal.returns-clause-with_sides
returns-clause-with_sides c = holds_on_ok c.push.result c.in-Ok-insert.ensures
