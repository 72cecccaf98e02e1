use Rattle.std.proofs.Common.{subst, IfSome}
use Rattle.dual_simplex.specs.private.SmallStandings.{AreSmallStanding}
use Rattle.dual_simplex.proofs.leaving.keep_row.Goals as goal

pub keep_value-requires-clause-standing : goal.keep_value-requires-clause-standing
keep_value-requires-clause-standing c =
    let are = subst (λ o. IfSome o (λ n. AreSmallStanding c.args.state.now c.args.places.now c.args.numbers.now n)) c.in-Some.is c.requires.standing in
    are.0
