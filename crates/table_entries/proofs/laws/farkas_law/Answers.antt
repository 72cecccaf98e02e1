use Rattle.table_entries.proofs.Lag.{farkas_of}
use Rattle.table_entries.proofs.laws.farkas_law.Goals as goal

pub returns : goal.returns
returns c = λ p st is stands r side b r_within outside none. farkas_of p st is stands r side b r_within outside none
