use Rattle.std.proofs.Common.{◌∙◌, ◌++◌, ◌∷◌, [], sym, ap, if◌then◌else◌}
use Rattle.node_solve.proofs.cuts.RelaxationCuts.push.Goals as goal

pub returns-then-self : goal.returns-then-self
returns-then-self c =
    let before = ap (λ t. if t then c.self.inside.lent.now else c.self.inside.own.items) (sym c.if-self.true) ∙ c.self.view_is in
    record { items = c.put_cuts.ensures ∙ c.in-Ok.ensures ∙ ap (λ l. l ++ c.args.cut ∷ []) before }

pub returns : goal.returns
returns c =
    let before = ap (λ t. if t then c.self.inside.lent.now else c.self.inside.own.items) (sym c.if-self.false) ∙ c.self.view_is in
    record { items = ap (λ t. if t then c.self.inside.lent.now else c.push.new.self.items) c.if-self.false ∙ c.in-Ok-push.ensures.items ∙ ap (λ l. l ++ c.args.cut ∷ []) before }
