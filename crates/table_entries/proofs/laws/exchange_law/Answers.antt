use Rattle.table_entries.proofs.Pivot.{IsTable-pivoted}
use Rattle.table_entries.proofs.Arranged.{IsArranged-pivoted}
use Rattle.table_entries.proofs.laws.exchange_law.Goals as goal

pub returns : goal.returns
returns c = λ p d r s r_within s_within some is. record { table = IsTable-pivoted p d r s r_within s_within some is.table; arranged = IsArranged-pivoted p d r s r_within s_within is.arranged }
