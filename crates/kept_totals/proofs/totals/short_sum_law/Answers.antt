use Rattle.kept_totals.proofs.ShortLemmas.{short_sum}
use Rattle.kept_totals.proofs.totals.short_sum_law.Goals as goal

pub returns : goal.returns
returns c = short_sum
