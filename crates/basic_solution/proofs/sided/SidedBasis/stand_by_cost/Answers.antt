use Rattle.std.proofs.Common.{◌∙◌, sym, ap}
use Rattle.std.proofs.lemmas.Bool.{false≢true}
use Rattle.basic_solution.specs.Held.{relaxation}
use Rattle.basic_solution.proofs.sided.SidedBasis.stand_by_cost.Goals as goal

pub cost_of-cost-requires : goal.cost_of-cost-requires
cost_of-cost-requires c = c.nonbasic.ensures.within

pub asked-stand-requires-clause-cost : goal.asked-stand-requires-clause-cost
asked-stand-requires-clause-cost c =
    c.cost_of-cost.ensures ∙ ap (relaxation c.args.self.now).cost c.nonbasic.ensures.value ∙ c.requires.cost

pub returns-then-can_stand : goal.returns-then-can_stand
returns-then-can_stand c = record { asked = c.asked-stand.ensures; can = c.can_stand.ensures.0 c.if-can_stand.true }

pub returns-else-can_stand : goal.returns-else-can_stand
returns-else-can_stand c = record { stand = c.asked-stand.result; asked = c.asked-stand.ensures; cannot = λ h. false≢true (sym c.if-can_stand.false ∙ c.can_stand.ensures.1 h) }
