use Rattle.std.proofs.Common.{FitsSigned, rules}
use Rattle.std.specs.Int.{w128}
use Rattle.frac128.proofs.Terms.{fields_of}
use Rattle.frac128.proofs.OrderTerms.{zero_test}
use Rattle.frac128.proofs.frac.Frac.is_zero.Goals as goal

pub returns : goal.returns
returns c =
    let number_fits : FitsSigned w128 c.self.inside.numerator = search rules in
    zero_test _ _ _ (fields_of _ _ _ c.self.view_is c.self.invariant) number_fits
