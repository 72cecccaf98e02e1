use Rattle.table_entries.proofs.SameState.{no_same_state_twice}
use Rattle.table_entries.proofs.laws.no_state_twice_law.Goals as goal

pub returns : goal.returns
returns c = λ p parts separates n states good steps t u less within. no_same_state_twice p parts separates n states good steps t u less within
