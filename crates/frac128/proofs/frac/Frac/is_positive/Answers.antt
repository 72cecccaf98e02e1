use Rattle.std.proofs.Common.{FitsSigned, rules}
use Rattle.std.specs.Int.{w128}
use Rattle.std.proofs.lemmas.Int.{to_z-of_z}
use Rattle.frac128.proofs.Terms.{fields_of}
use Rattle.frac128.proofs.OrderTerms.{positive_test}
use Rattle.frac128.proofs.frac.Frac.is_positive.Goals as goal

pub returns : goal.returns
returns c =
    let number_fits : FitsSigned w128 c.self.inside.numerator = search rules in
    simp to_z-of_z (positive_test _ _ _ (fields_of _ _ _ c.self.view_is c.self.invariant))
