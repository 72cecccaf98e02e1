use Rattle.mps_sections.proofs.ListFacts.{holds_on_ok}
use Rattle.mps_sections.proofs.numbered.add_pair.Goals as goal

pub returns-clause-rows : goal.returns-clause-rows
returns-clause-rows c = holds_on_ok c.push.result c.in-Ok.ensures
