use Rattle.std.proofs.Common.{◌∙◌, sym, subst}
use Rattle.lp_model.specs.Formulations.{formulation}
use Rattle.basic_solution.specs.Held.{IsSided}
use Rattle.basic_solution.proofs.sided.SidedBasis.write_row.Goals as goal

pub invariant_of-self : goal.invariant_of-self
invariant_of-self c =
    let i = c.self.inside in
    subst (λ t. IsSided (record { form = formulation i.model.now i.cuts.now; low = i.low.items; high = i.high.items; cost = i.cost; tilt = i.tilt.items; order = i.order.items; tableau = t; stands = i.stands.items })) (sym c.write_row.ensures) c.self.invariant

pub returns : goal.returns
returns c =
    let i = c.self.inside in
    (λ z. record { form = formulation i.model.now i.cuts.now; low = i.low.items; high = i.high.items; cost = i.cost; tilt = i.tilt.items; order = i.order.items; tableau = c.write_row.ensures z; stands = i.stands.items }) ∙ c.self.view_is
