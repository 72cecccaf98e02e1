use Rattle.std.proofs.Common.{◌≡◌, ◌∙◌, ◌<◌, ap, sym, subst, get_or}
use Rattle.table_entries.specs.declared.stand.Stand.TheVariants.{Free}
use Rattle.frac128.specs.Rational.{◌*ℚ◌}
use Rattle.table_entries.specs.Relaxation.{reduced_cost}
use Rattle.table_entries.specs.States.{sign}
use Rattle.basic_solution.specs.Held.{relaxation, table, variables, own_cost}
use Rattle.basic_solution.proofs.PartLemmas.{tilt_read, own_basic, own_here, own_elsewhere}
use Rattle.basic_solution.proofs.sided.SidedBasis.own_reduced.Goals as goal

pub returns-in-Row : goal.returns-in-Row
returns-in-Row c =
    let v = c.args.variable in
    let place_within = subst (λ s. c.args.place < s.tableau.columns) (sym c.self.view_is) c.requires.place in
    let v_within = subst (λ s. v < variables s) (sym c.self.view_is) c.requires.variable in
    subst (λ s. c.signed.result ≡ reduced_cost (relaxation s) (table s) (own_cost s v) c.args.place) c.self.view_is
    (c.signed.ensures ∙ ap (λ a. sign a *ℚ c.entry.result) (tilt_read _ c.self.invariant v v_within c.index-tilt.result.now c.index-tilt.ensures)
    ∙ ap (λ b. sign (get_or c.self.inside.tilt.items v Free) *ℚ b) c.entry.ensures
    ∙ own_basic _ c.self.invariant c.args.place v place_within c.in-Row.row c.in-Row.ensures.0 c.in-Row.ensures.1)

pub returns-in-Place : goal.returns-in-Place
returns-in-Place c =
    let v = c.args.variable in
    let place_within = subst (λ s. c.args.place < s.tableau.columns) (sym c.self.view_is) c.requires.place in
    let v_within = subst (λ s. v < variables s) (sym c.self.view_is) c.requires.variable in
    subst (λ s. c.signed-in-Place.result ≡ reduced_cost (relaxation s) (table s) (own_cost s v) c.args.place) c.self.view_is
    (c.signed-in-Place.ensures ∙ ap (λ a. sign a *ℚ c.whole.result) (tilt_read _ c.self.invariant v v_within c.index-tilt.result.now c.index-tilt.ensures)
    ∙ ap (λ b. sign (get_or c.self.inside.tilt.items v Free) *ℚ b) c.whole.ensures
    ∙ own_here _ c.self.invariant c.args.place v place_within c.in-Place.other c.if-other-place.true c.in-Place.ensures.1)

pub returns-in-Place-2 : goal.returns-in-Place-2
returns-in-Place-2 c =
    let v = c.args.variable in
    let place_within = subst (λ s. c.args.place < s.tableau.columns) (sym c.self.view_is) c.requires.place in
    subst (λ s. c.whole-in-Place-2.result ≡ reduced_cost (relaxation s) (table s) (own_cost s v) c.args.place) c.self.view_is
    (c.whole-in-Place-2.ensures ∙ own_elsewhere _ c.self.invariant c.args.place v place_within c.in-Place.other c.if-other-place.false c.in-Place.ensures.0 c.in-Place.ensures.1)
