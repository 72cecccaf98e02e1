use Rattle.std.proofs.Common.{◌<◌, ◌∙◌, sym, subst, ap, arith, IfSome, length}
use Rattle.frac128.specs.LowestTerms.{quotient_of}
use Rattle.whole_sums.proofs.SumLemmas.{zero_over}
use Rattle.table_entries.specs.WholeSteps.{whole_number_at}
use Rattle.table_entries.proofs.ReadLemmas.{short_read}
use Rattle.dual_simplex.specs.private.RowNumbers.{HaveDenominator}
use Rattle.dual_simplex.proofs.entering.has_no_entry.Goals as goal

pub bounds-numbers-place : goal.bounds-numbers-place
bounds-numbers-place c =
    let are = subst (λ o. IfSome o (λ r. HaveDenominator c.args.state.now c.args.row r.now)) c.in-Some.is c.requires.entries in
    let size = are.1.1.size in
    let within = c.requires.place in
    omega (arith, size, within)

pub returns-in-Some : goal.returns-in-Some
returns-in-Some c = λ t.
    let are = subst (λ o. IfSome o (λ r. HaveDenominator c.args.state.now c.args.row r.now)) c.in-Some.is c.requires.entries in
    let place = c.args.place in
    let numbers = c.in-Some.numbers.now in
    let inside : place < length numbers = (let size = are.1.1.size in let within = c.requires.place in omega (arith, size, within)) in
    let read = short_read (whole_number_at numbers place) (are.1.1.short place inside) in
    are.1.1.entries place c.requires.place ∙ ap (λ n. quotient_of n are.0) (sym read ∙ c.is_nothing.ensures t) ∙ zero_over are.0 are.1.0
