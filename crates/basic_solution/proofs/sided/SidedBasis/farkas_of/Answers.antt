use Rattle.std.proofs.Common.{◌≡◌, ◌<◌, ◌∙◌, ap, subst}
use Rattle.frac128.specs.Rational.{◌*ℚ◌, neg_ℚ}
use Rattle.table_entries.specs.States.{sign}
use Rattle.basic_solution.specs.Held.{IsSided, table}
use Rattle.basic_solution.proofs.PointLemmas.{weight_leaving, weight_basic, weight_nonbasic}
use Rattle.basic_solution.proofs.sided.SidedBasis.farkas_of.Goals as goal

pub returns-in-Row : goal.returns-in-Row
returns-in-Row c =
    let now = c.args.self.now in
    let row = c.in-Row.other in
    let at = subst (λ s. (row < s.tableau.activities) × ((table s).basic row ≡ c.args.variable)) c.self.view_is c.in-Row.ensures in
    c.signed.ensures
    ∙ ap (λ t. sign c.args.side *ℚ t) (c.whole.ensures ∙ weight_leaving now (subst IsSided c.self.view_is c.self.invariant) c.args.row c.args.variable row c.if-other-row.true at.0 at.1)

pub returns-in-Row-2 : goal.returns-in-Row-2
returns-in-Row-2 c =
    let now = c.args.self.now in
    let row = c.in-Row.other in
    let at = subst (λ s. (row < s.tableau.activities) × ((table s).basic row ≡ c.args.variable)) c.self.view_is c.in-Row.ensures in
    c.signed-in-Row-2.ensures
    ∙ ap (λ t. sign c.args.side *ℚ t) (c.whole-in-Row-2.ensures ∙ weight_basic now (subst IsSided c.self.view_is c.self.invariant) c.args.row c.args.variable row c.if-other-row.false at.0 at.1)

pub returns-in-Place : goal.returns-in-Place
returns-in-Place c =
    let now = c.args.self.now in
    let place = c.in-Place.place in
    let at = subst (λ s. (place < s.tableau.columns) × ((table s).nonbasic place ≡ c.args.variable)) c.self.view_is (c.in-Place.ensures.0, c.in-Place.ensures.1) in
    let entry_is = subst (λ s. c.entry.result ≡ (table s).entry c.args.row place) c.self.view_is c.entry.ensures in
    c.signed-in-Place.ensures
    ∙ ap (λ t. sign c.args.side *ℚ t) (c.neg.ensures ∙ ap neg_ℚ entry_is ∙ weight_nonbasic now (subst IsSided c.self.view_is c.self.invariant) c.args.row c.args.variable place at.0 at.1)
