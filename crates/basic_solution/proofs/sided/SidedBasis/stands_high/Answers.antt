use Rattle.std.proofs.Common.{◌≡◌, ◌<◌, ◌∙◌, sym, subst}
use Rattle.table_entries.specs.declared.stand.Stand.TheVariants.{Low, High, Free}
use Rattle.basic_solution.specs.Held.{IsSided, table}
use Rattle.basic_solution.proofs.ListLemmas.{basic_not_high, place_high, place_not_high}
use Rattle.basic_solution.proofs.sided.SidedBasis.stands_high.Goals as goal

pub returns-in-Row : goal.returns-in-Row
returns-in-Row c =
    let row = c.in-Row.field-0 in
    let at = subst (λ s. (row < s.tableau.activities) × ((table s).basic row ≡ c.args.variable)) c.self.view_is c.in-Row.ensures in
    basic_not_high c.args.self.now (subst IsSided c.self.view_is c.self.invariant) c.args.variable row at.0 at.1

pub stand_of-requires : goal.stand_of-requires
stand_of-requires c = subst (λ s. c.in-Place.place < s.tableau.columns) c.self.view_is c.in-Place.ensures.0

pub returns-in-High : goal.returns-in-High
returns-in-High c =
    let place = c.in-Place.place in
    let at = subst (λ s. (place < s.tableau.columns) × ((table s).nonbasic place ≡ c.args.variable)) c.self.view_is (c.in-Place.ensures.0, c.in-Place.ensures.1) in
    place_high c.args.self.now (subst IsSided c.self.view_is c.self.invariant) c.args.variable place at.0 at.1 (sym c.in-High.ensures)

pub returns-in-Low : goal.returns-in-Low
returns-in-Low c =
    let place = c.in-Place.place in
    let at = subst (λ s. (place < s.tableau.columns) × ((table s).nonbasic place ≡ c.args.variable)) c.self.view_is (c.in-Place.ensures.0, c.in-Place.ensures.1) in
    place_not_high c.args.self.now (subst IsSided c.self.view_is c.self.invariant) c.args.variable place at.0 at.1 (λ e. let f : Low ≡ High = c.in-Low.ensures ∙ e in cc)

pub returns-in-Free : goal.returns-in-Free
returns-in-Free c =
    let place = c.in-Place.place in
    let at = subst (λ s. (place < s.tableau.columns) × ((table s).nonbasic place ≡ c.args.variable)) c.self.view_is (c.in-Place.ensures.0, c.in-Place.ensures.1) in
    place_not_high c.args.self.now (subst IsSided c.self.view_is c.self.invariant) c.args.variable place at.0 at.1 (λ e. let f : Free ≡ High = c.in-Free.ensures ∙ e in cc)
