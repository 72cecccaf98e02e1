use Rattle.std.proofs.Common.{subst}
use Rattle.frac128.specs.Range.{Fits}
use Rattle.frac128.proofs.Terms.{fits_from_narrow}
use Rattle.frac128.proofs.frac.Frac.has_room.Goals as goal

pub returns : goal.returns
returns c = subst Fits c.self.view_is (fits_from_narrow c.self.inside.numerator c.self.inside.denominator c.self.invariant)
