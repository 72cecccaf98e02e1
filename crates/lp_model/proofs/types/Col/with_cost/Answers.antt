use Rattle.lp_model.proofs.types.Col.with_cost.Goals as goal

pub returns-in-Ok-copy_name : goal.returns-in-Ok-copy_name
returns-in-Ok-copy_name c = λ i. record c.args.self.now { name = c.in-Ok-copy_name.ensures i; cost = c.args.cost; rows = c.in-Ok.ensures i }
