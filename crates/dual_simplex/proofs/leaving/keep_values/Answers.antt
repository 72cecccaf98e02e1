use Rattle.std.proofs.Common.{arith, subst, IfSome}
use Rattle.dual_simplex.specs.private.SmallStandings.{AreSmallStanding}
use Rattle.dual_simplex.proofs.leaving.keep_values.Goals as goal

pub keep_value-requires-clause-row : goal.keep_value-requires-clause-row
keep_value-requires-clause-row c = let less = c.loop-row-test.true in let size = c.requires.kept.size in omega (arith, less, size)

pub keep_value-requires-clause-standing : goal.keep_value-requires-clause-standing
keep_value-requires-clause-standing c =
    let are = subst (λ o. IfSome o (λ n. AreSmallStanding c.args.state.now c.args.places.now c.args.numbers.now n)) c.in-Some.is c.requires.standing in
    are.0
