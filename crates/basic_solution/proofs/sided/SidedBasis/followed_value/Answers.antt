use Rattle.std.proofs.Common.{◌≡◌, ◌∙◌, ◌<◌, length, sym, ap, subst, arith, to_z, of_z, w64}
use Rattle.std.proofs.lemmas.Int.{ints}
use Rattle.frac128.specs.LowestTerms.{quotient_of}
use Rattle.table_entries.specs.WholeSteps.{whole_number_at}
use Rattle.table_entries.proofs.ReadLemmas.{short_read, short_again}
use Rattle.basic_solution.specs.private.Followed.{IsFollowed}
use Rattle.basic_solution.proofs.FollowLemmas.{kept_read}
use Rattle.basic_solution.proofs.sided.SidedBasis.followed_value.Goals as goal

pub followed-requires-clause-entry : goal.followed-requires-clause-entry
followed-requires-clause-entry c =
    let entries = c.in-Some.entries.now in
    let place = c.args.place in
    let inside : place < length entries = let size = c.in-Some.ensures.size in let within = c.requires.place in omega (arith, size, within) in
    short_again (whole_number_at entries place) (c.in-Some.ensures.short place inside)

pub returns-in-Some-clause-value : goal.returns-in-Some-clause-value
returns-in-Some-clause-value c = λ short.
    let entries = c.in-Some.entries.now in
    let place = c.args.place in
    let inside : place < length entries = let size = c.in-Some.ensures.size in let within = c.requires.place in omega (arith, size, within) in
    let e = whole_number_at entries place in
    let e_is : to_z w64 (of_z w64 e) ≡ e = short_read e (c.in-Some.ensures.short place inside) in
    let number_is : to_z w64 (of_z w64 c.args.number) ≡ c.args.number = omega (arith, ints) in
    let before_is : to_z w64 (of_z w64 c.args.before) ≡ c.args.before = short_read c.args.before c.requires.before in
    let after_is : to_z w64 (of_z w64 c.args.after) ≡ c.args.after = short_read c.args.after c.requires.after in
    let factor_is : to_z w64 (of_z w64 c.args.factor) ≡ c.args.factor = short_read c.args.factor c.requires.factor in
    let n_is : to_z w64 (of_z w64 c.followed.result) ≡ c.followed.result = kept_read c.followed.result c.followed.ensures.kept in
    let follows = subst (λ T. T) (λ i. IsFollowed (before_is i) (after_is i) (factor_is i) (e_is i) (number_is i) (sym n_is i)) c.followed.ensures.value in
    (e, (c.in-Some.ensures.entries place c.requires.place ∙ ap (quotient_of e) after_is, follows))
