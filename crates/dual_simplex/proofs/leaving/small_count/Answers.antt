use Rattle.std.proofs.Common.{subst, IfSome}
use Rattle.basic_solution.specs.Standing.{AreStanding}
use Rattle.dual_simplex.proofs.leaving.small_count.Goals as goal

pub are_all_small-requires-clause-count : goal.are_all_small-requires-clause-count
are_all_small-requires-clause-count c =
    let are = subst (λ o. IfSome o (λ n. AreStanding c.args.state.now c.args.places.now c.args.numbers.now n)) c.in-Some.is c.requires in
    are.numbered.size

pub are_all_small-requires-clause-short : goal.are_all_small-requires-clause-short
are_all_small-requires-clause-short c =
    let are = subst (λ o. IfSome o (λ n. AreStanding c.args.state.now c.args.places.now c.args.numbers.now n)) c.in-Some.is c.requires in
    are.numbered.short

pub returns : goal.returns
returns c =
    let are = subst (λ o. IfSome o (λ n. AreStanding c.args.state.now c.args.places.now c.args.numbers.now n)) c.in-Some.is c.requires in
    (are, c.are_all_small.ensures c.if-not-are_all_small.false)
