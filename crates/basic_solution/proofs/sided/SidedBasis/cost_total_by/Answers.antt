use Rattle.std.proofs.Common.{subst, IfSome}
use Rattle.basic_solution.specs.Priced.{ArePriced}
use Rattle.basic_solution.proofs.sided.SidedBasis.cost_total_by.Goals as goal

pub priced_total-requires-clause-priced : goal.priced_total-requires-clause-priced
priced_total-requires-clause-priced c =
    let priced = c.args.source.now in
    subst (λ o. IfSome o (λ n. ArePriced c.args.self.now priced.rows.now priced.numbers.now n)) c.in-Some.is c.requires.priced
