use Rattle.table_entries.proofs.Lag.{lag-≤ℚ}
use Rattle.table_entries.proofs.laws.weak_duality_law.Goals as goal

pub returns : goal.returns
returns c = λ p y z x lag within. lag-≤ℚ p y z x lag within
