use Rattle.std.proofs.Common.{◌∙◌, refl, sym, subst, Ok}
use Rattle.lp_model.specs.Formulations.{formulation}
use Rattle.basic_solution.specs.Held.{Held}
use Rattle.basic_solution.specs.ListedStates.{Keeps}
use Rattle.basic_solution.specs.private.ListedStates.{IsBroughtTo}
use Rattle.basic_solution.proofs.ListedLemmas.{sided_on, brought, brought_wide}
use Rattle.basic_solution.proofs.sided.SidedBasis.bring_in.Goals as goal
use Rattle.basic_solution.proofs.sided.SidedBasis.bring_in.Goals.{in-Ok, in-Err}

pub invariant_of-self : goal.invariant_of-self
invariant_of-self c =
    let i = c.self.inside in
    let s : Held = record { form = formulation i.model.now i.cuts.now; low = i.low.items; high = i.high.items; cost = i.cost; tilt = i.tilt.items; order = i.order.items; tableau = i.tableau; stands = i.stands.items } in
    let t : Held = record { form = formulation i.model.now i.cuts.now; low = i.low.items; high = i.high.items; cost = i.cost; tilt = i.tilt.items; order = i.order.items; tableau = c.bring_in.new.self; stands = i.stands.items } in
    let keeps : Keeps s t = record {
      form = refl;
      low = refl;
      high = refl;
      cost = refl;
      tilt = refl;
      order = refl;
      columns = c.bring_in.ensures.columns;
      rows = c.bring_in.ensures.rows;
      activities = c.bring_in.ensures.activities;
      basis = c.bring_in.ensures.basis;
    } in
    sided_on s t keeps c.self.invariant (c.self.invariant.shape.stands_length ∙ sym c.bring_in.ensures.columns)

pub returns-clause-answer : goal.returns-clause-answer
returns-clause-answer c =
    let i = c.self.inside in
    let s : Held = record { form = formulation i.model.now i.cuts.now; low = i.low.items; high = i.high.items; cost = i.cost; tilt = i.tilt.items; order = i.order.items; tableau = i.tableau; stands = i.stands.items } in
    let t : Held = record { form = formulation i.model.now i.cuts.now; low = i.low.items; high = i.high.items; cost = i.cost; tilt = i.tilt.items; order = i.order.items; tableau = c.bring_in.new.self; stands = i.stands.items } in
    let keeps : Keeps s t = record {
      form = refl;
      low = refl;
      high = refl;
      cost = refl;
      tilt = refl;
      order = refl;
      columns = c.bring_in.ensures.columns;
      rows = c.bring_in.ensures.rows;
      activities = c.bring_in.ensures.activities;
      basis = c.bring_in.ensures.basis;
    } in
    let list = c.args.list.now in
    elim c.match-bring_in.branch [
      | in-Ok w ↦ subst (λ r. IsBroughtTo c.args.self.now list r t) (sym w.result-is) (subst (λ u. IsBroughtTo u list (Ok w.in-Ok.brought) t) c.self.view_is (brought s t keeps list w.in-Ok.brought w.in-Ok.ensures.answer))
      | in-Err w ↦ subst (λ r. IsBroughtTo c.args.self.now list r t) (sym w.result-is) (brought_wide s t keeps list w.in-Err.step w.in-Err.ensures.answer)
    ]
