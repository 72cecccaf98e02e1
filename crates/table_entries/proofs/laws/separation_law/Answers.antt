use Rattle.table_entries.proofs.Walk.{Separates-perturbed}
use Rattle.table_entries.proofs.laws.separation_law.Goals as goal

pub returns : goal.returns
returns c = λ p tilt rank tilted once. Separates-perturbed p tilt rank tilted once
