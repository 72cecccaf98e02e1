use Rattle.std.proofs.Common.{◌≡◌, ◌<◌, subst}
use Rattle.basic_solution.specs.Held.{IsSided, table}
use Rattle.basic_solution.proofs.PointLemmas.{number_basic, number_nonbasic}
use Rattle.basic_solution.proofs.sided.SidedBasis.listed_number.Goals as goal

pub returns-in-Row : goal.returns-in-Row
returns-in-Row c =
    let row = c.in-Row.row in
    let at = subst (λ s. (row < s.tableau.activities) × ((table s).basic row ≡ c.args.variable)) c.self.view_is c.in-Row.ensures in
    number_basic c.args.self.now (subst IsSided c.self.view_is c.self.invariant) c.args.variable row at.0 at.1 c.listed_value.result c.listed_value.ensures

pub returns-in-Place : goal.returns-in-Place
returns-in-Place c =
    let place = c.in-Place.place in
    let at = subst (λ s. (place < s.tableau.columns) × ((table s).nonbasic place ≡ c.args.variable)) c.self.view_is (c.in-Place.ensures.0, c.in-Place.ensures.1) in
    number_nonbasic c.args.self.now (subst IsSided c.self.view_is c.self.invariant) c.args.variable place at.0 at.1 c.place_number.result c.place_number.ensures
