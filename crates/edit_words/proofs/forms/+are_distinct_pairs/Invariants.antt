use Rattle.std.proofs.Common.{length}
use Rattle.edit_words.proofs.forms.+are_distinct_pairs.Given as goal

abbrev pub decreases-are_distinct_pairs : goal.decreases-are_distinct_pairs
decreases-are_distinct_pairs l = length l.words.now
