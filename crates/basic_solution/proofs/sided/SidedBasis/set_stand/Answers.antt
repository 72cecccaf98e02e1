use Rattle.std.proofs.Common.{◌<◌, ◌∙◌, sym, ap, subst, arith, get_or, set}
use Rattle.std.proofs.lemmas.List.{length-set, get_or-set_same, get_or-set_other}
use Rattle.table_entries.specs.declared.stand.Stand.TheVariants.{Free}
use Rattle.lp_model.specs.Formulations.{formulation}
use Rattle.basic_solution.specs.Held.{Held}
use Rattle.basic_solution.proofs.SlackLemmas.{restood_sided}
use Rattle.basic_solution.proofs.sided.SidedBasis.set_stand.Goals as goal

pub index_mut-requires : goal.index_mut-requires
index_mut-requires c =
    let within : c.args.place < c.self.inside.tableau.columns = subst (λ s. c.args.place < s.tableau.columns) (sym c.self.view_is) c.requires in
    let size = c.self.invariant.shape.stands_length in
    omega (arith, size, within)

pub invariant_of-self : goal.invariant_of-self
invariant_of-self c =
    let i = c.self.inside in
    let before : Held = record { form = formulation i.model.now i.cuts.now; low = i.low.items; high = i.high.items; cost = i.cost; tilt = i.tilt.items; order = i.order.items; tableau = i.tableau; stands = i.stands.items } in
    restood_sided before (set i.stands.items c.args.place c.args.stand) (length-set i.stands.items c.args.place c.args.stand ∙ c.self.invariant.shape.stands_length) c.self.invariant

pub returns-clause-here : goal.returns-clause-here
returns-clause-here c =
    let within : c.args.place < c.self.inside.tableau.columns = subst (λ s. c.args.place < s.tableau.columns) (sym c.self.view_is) c.requires in
    let size = c.self.invariant.shape.stands_length in
    get_or-set_same c.self.inside.stands.items c.args.place c.args.stand Free (omega (arith, size, within))

pub returns-clause-others : goal.returns-clause-others
returns-clause-others c = λ k other. get_or-set_other c.self.inside.stands.items c.args.place k c.args.stand Free other ∙ ap (λ s. get_or s.stands k Free) c.self.view_is

pub returns-clause-same : goal.returns-clause-same
returns-clause-same c = let again : Held → Held = λ s. record s { stands = set c.self.inside.stands.items c.args.place c.args.stand } in ap again c.self.view_is
