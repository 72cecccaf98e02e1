use Rattle.std.proofs.Common.{◌≢◌, ◌<◌, ◌∙◌, pos, refl, sym, subst, arith}
use Rattle.frac128.specs.Rational.{int}
use Rattle.table_entries.specs.Steps.{ExchangeFits}
use Rattle.lp_model.specs.Formulations.{formulation}
use Rattle.row_tableau.specs.Answers.{IsWidePivot}
use Rattle.basic_solution.specs.Held.{Held, IsSided, table}
use Rattle.basic_solution.proofs.ExchangeLemmas.{sided_after, moved_at, same_tableau}
use Rattle.basic_solution.proofs.sided.SidedBasis.exchange.Goals as goal

pub exchange_named-requires-clause-row : goal.exchange_named-requires-clause-row
exchange_named-requires-clause-row c = subst (λ s. c.args.row < s.tableau.activities) (sym c.self.view_is) c.requires.row

pub exchange_named-requires-clause-place : goal.exchange_named-requires-clause-place
exchange_named-requires-clause-place c = subst (λ s. c.args.place < s.tableau.columns) (sym c.self.view_is) c.requires.place

pub exchange_named-requires-clause-some : goal.exchange_named-requires-clause-some
exchange_named-requires-clause-some c = subst (λ s. (table s).entry c.args.row c.args.place ≢ int (pos 0)) (sym c.self.view_is) c.requires.some

pub index_mut-requires : goal.index_mut-requires
index_mut-requires c =
    let within : c.args.place < c.self.inside.tableau.columns = subst (λ s. c.args.place < s.tableau.columns) (sym c.self.view_is) c.requires.place in
    let size = c.self.invariant.shape.stands_length in
    omega (arith, size, within)

pub invariant_of-self : goal.invariant_of-self
invariant_of-self c =
    let i = c.self.inside in
    let row = c.args.row in
    let place = c.args.place in
    let before : Held = record { form = formulation i.model.now i.cuts.now; low = i.low.items; high = i.high.items; cost = i.cost; tilt = i.tilt.items; order = i.order.items; tableau = i.tableau; stands = i.stands.items } in
    sided_after before _ c.self.invariant row c.args.side place
    (subst (λ s. row < s.tableau.activities) (sym c.self.view_is) c.requires.row)
    (subst (λ s. place < s.tableau.columns) (sym c.self.view_is) c.requires.place)
    (subst (λ s. (table s).entry row place ≢ int (pos 0)) (sym c.self.view_is) c.requires.some)
    (record {
      form = refl;
      low = refl;
      high = refl;
      cost = refl;
      tilt = refl;
      order = refl;
      columns = c.in-Ok.ensures.columns;
      rows = c.in-Ok.ensures.rows;
      activities = c.in-Ok.ensures.activities;
      exchanged = c.in-Ok.ensures.table;
      stands = refl;
    })

pub returns-in-Ok-clause-moved : goal.returns-in-Ok-clause-moved
returns-in-Ok-clause-moved c =
    let i = c.self.inside in
    let before : Held = record { form = formulation i.model.now i.cuts.now; low = i.low.items; high = i.high.items; cost = i.cost; tilt = i.tilt.items; order = i.order.items; tableau = i.tableau; stands = i.stands.items } in
    moved_at before _ _ c.self.view_is c.args.row c.args.side c.args.place
    (record {
      form = refl;
      low = refl;
      high = refl;
      cost = refl;
      tilt = refl;
      order = refl;
      columns = c.in-Ok.ensures.columns;
      rows = c.in-Ok.ensures.rows;
      activities = c.in-Ok.ensures.activities;
      exchanged = c.in-Ok.ensures.table;
      stands = refl;
    })

pub returns-in-Ok-clause-fits : goal.returns-in-Ok-clause-fits
returns-in-Ok-clause-fits c = subst (λ s. ExchangeFits s.tableau.columns s.tableau.activities (table s) c.args.row c.args.place) c.self.view_is c.in-Ok.ensures.fits

pub invariant_of-self-in-Err : goal.invariant_of-self-in-Err
invariant_of-self-in-Err c =
    let i = c.self.inside in
    let before : Held = record { form = formulation i.model.now i.cuts.now; low = i.low.items; high = i.high.items; cost = i.cost; tilt = i.tilt.items; order = i.order.items; tableau = i.tableau; stands = i.stands.items } in
    subst IsSided (sym (same_tableau before c.exchange_named.new.self c.in-Err.ensures.kept)) c.self.invariant

pub returns-in-Err-clause-wide : goal.returns-in-Err-clause-wide
returns-in-Err-clause-wide c = subst (λ s. IsWidePivot s.tableau c.args.row c.args.place c.in-Err.step) c.self.view_is c.in-Err.ensures.wide

pub returns-in-Err-clause-kept : goal.returns-in-Err-clause-kept
returns-in-Err-clause-kept c =
    let i = c.self.inside in
    let before : Held = record { form = formulation i.model.now i.cuts.now; low = i.low.items; high = i.high.items; cost = i.cost; tilt = i.tilt.items; order = i.order.items; tableau = i.tableau; stands = i.stands.items } in
    same_tableau before c.exchange_named.new.self c.in-Err.ensures.kept ∙ c.self.view_is
