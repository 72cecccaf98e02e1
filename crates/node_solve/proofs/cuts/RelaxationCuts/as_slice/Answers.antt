use Rattle.std.proofs.Common.{◌∙◌, sym, ap}
use Rattle.std.specs.Prelude.{if◌then◌else◌}
use Rattle.node_solve.proofs.cuts.RelaxationCuts.as_slice.Goals as goal

pub returns-then-self : goal.returns-then-self
returns-then-self c = record { value = ap (λ t. if t then c.self.inside.lent.now else c.self.inside.own.items) (sym c.if-self.true) ∙ c.self.view_is }

pub returns-else-self : goal.returns-else-self
returns-else-self c = record { value = c.as_slice.ensures.value ∙ ap (λ t. if t then c.self.inside.lent.now else c.self.inside.own.items) (sym c.if-self.false) ∙ c.self.view_is }
