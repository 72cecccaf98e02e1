use Rattle.table_entries.proofs.NextState.{next_same}
use Rattle.table_entries.proofs.laws.next_state_law.Goals as goal

pub returns : goal.returns
returns c = λ p parts ordered st other after also st_good other_good same a b. next_same p parts ordered st other after also st_good other_good same a b
