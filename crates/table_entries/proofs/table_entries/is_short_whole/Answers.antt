use Rattle.std.proofs.Common.{sym, subst}
use Rattle.table_entries.specs.Listed.{IsShortWhole}
use Rattle.table_entries.proofs.ListedLemmas.{zero_short_whole}
use Rattle.table_entries.proofs.table_entries.is_short_whole.Goals as goal

pub returns-then-is_zero : goal.returns-then-is_zero
returns-then-is_zero c = λ _. subst IsShortWhole (sym (c.is_zero.ensures.0 c.if-is_zero.true)) zero_short_whole
