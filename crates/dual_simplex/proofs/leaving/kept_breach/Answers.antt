use Rattle.std.proofs.Common.{◌≡◌, sym, subst, IfSome, to_z, of_z, w64}
use Rattle.table_entries.proofs.ReadLemmas.{short_read}
use Rattle.basic_solution.specs.KeptValues.{AreKeptValues}
use Rattle.dual_simplex.specs.private.SmallStandings.{AreSmallStanding}
use Rattle.dual_simplex.proofs.leaving.kept_breach.Goals as goal

pub kept_breach-requires-clause-standing : goal.kept_breach-requires-clause-standing
kept_breach-requires-clause-standing c =
    let standing = c.args.standing.now in
    let are = subst (λ o. IfSome o (λ n. AreSmallStanding c.args.state.now standing.places.now standing.numbers.now n)) c.in-Some.is c.requires.small in
    are.0

pub kept_breach-requires-clause-small : goal.kept_breach-requires-clause-small
kept_breach-requires-clause-small c =
    let standing = c.args.standing.now in
    let are = subst (λ o. IfSome o (λ n. AreSmallStanding c.args.state.now standing.places.now standing.numbers.now n)) c.in-Some.is c.requires.small in
    are.1

pub kept_breach-requires-clause-kept : goal.kept_breach-requires-clause-kept
kept_breach-requires-clause-kept c =
    let standing = c.args.standing.now in
    let over : to_z w64 (of_z w64 standing.kept_over) ≡ standing.kept_over = short_read standing.kept_over c.requires.kept.denominator_short in
    subst (λ d. AreKeptValues c.args.state.now d standing.kept.now) (sym over) c.requires.kept
