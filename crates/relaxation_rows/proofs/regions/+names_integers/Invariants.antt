use Rattle.std.proofs.Common.{length}
use Rattle.relaxation_rows.proofs.regions.+names_integers.Given as goal

abbrev pub decreases-names_integers : goal.decreases-names_integers
decreases-names_integers l = length l.region.now
