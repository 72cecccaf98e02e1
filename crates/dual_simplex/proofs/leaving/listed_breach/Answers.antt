use Rattle.std.proofs.Common.{subst, IfSome}
use Rattle.basic_solution.specs.Standing.{AreStanding}
use Rattle.dual_simplex.proofs.leaving.listed_breach.Goals as goal

pub standing_breach-requires-clause-standing : goal.standing_breach-requires-clause-standing
standing_breach-requires-clause-standing c =
    let standing = c.args.standing.now in
    subst (λ o. IfSome o (λ n. AreStanding c.args.state.now standing.places.now standing.numbers.now n)) c.in-Some.is c.requires.standing
