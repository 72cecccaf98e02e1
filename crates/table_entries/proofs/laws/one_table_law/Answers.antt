use Rattle.table_entries.proofs.BringIn.{named_basics}
use Rattle.table_entries.proofs.OneTable.{one_table}
use Rattle.table_entries.proofs.laws.one_table_law.Goals as goal

pub returns : goal.returns
returns c = λ p list d e d_is e_is d_named e_named. one_table p d e d_is.table e_is.table d_is.arranged e_is.arranged (named_basics list d e d_named e_named)
