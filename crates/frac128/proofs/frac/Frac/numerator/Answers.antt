use Rattle.std.proofs.Common.{FitsSigned, rules, sym}
use Rattle.std.specs.Int.{w128}
use Rattle.std.proofs.lemmas.Int.{to_z-of_z}
use Rattle.frac128.proofs.Terms.{fields_of}
use Rattle.frac128.proofs.frac.Frac.numerator.Goals as goal

pub returns : goal.returns
returns c =
    let fits : FitsSigned w128 c.self.inside.numerator = search rules in
    simp to_z-of_z (sym ((fields_of _ _ _ c.self.view_is c.self.invariant).0))
