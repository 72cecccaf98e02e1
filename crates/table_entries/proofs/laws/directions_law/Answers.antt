use Rattle.table_entries.proofs.Ray.{lawful_for_model}
use Rattle.table_entries.proofs.laws.directions_law.Goals as goal

pub returns : goal.returns
returns c = λ p parts longer separates continues st arranged lawful within not_below. lawful_for_model p parts longer separates continues st arranged lawful within not_below
