use Rattle.std.proofs.Common.{subst, IfSome}
use Rattle.basic_solution.specs.Standing.{AreStanding}
use Rattle.basic_solution.proofs.sided.SidedBasis.listed_value.Goals as goal

pub counted_value-requires-clause-standing : goal.counted_value-requires-clause-standing
counted_value-requires-clause-standing c = subst (λ o. IfSome o (λ n. AreStanding c.args.self.now c.args.places.now c.args.numbers.now n)) c.in-Some.is c.requires.standing
