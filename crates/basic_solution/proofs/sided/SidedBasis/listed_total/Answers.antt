use Rattle.std.proofs.Common.{◌≡◌, subst, IfSome, to_z, of_z, w64}
use Rattle.basic_solution.specs.Standing.{AreStanding}
use Rattle.basic_solution.specs.private.RowTotals.{IsRowTotal}
use Rattle.table_entries.proofs.ReadLemmas.{short_read, short_again, positive_again}
use Rattle.basic_solution.proofs.sided.SidedBasis.listed_total.Goals as goal

pub standing_total-requires-clause-positive : goal.standing_total-requires-clause-positive
standing_total-requires-clause-positive c = positive_again c.args.denominator c.requires.denominator c.requires.positive

pub standing_total-requires-clause-denominator : goal.standing_total-requires-clause-denominator
standing_total-requires-clause-denominator c = short_again c.args.denominator c.requires.denominator

pub standing_total-requires-clause-standing : goal.standing_total-requires-clause-standing
standing_total-requires-clause-standing c = subst (λ o. IfSome o (λ n. AreStanding c.args.self.now c.args.places.now c.args.numbers.now n)) c.in-Some.is c.requires.standing

pub row_total-requires-clause-positive : goal.row_total-requires-clause-positive
row_total-requires-clause-positive c = positive_again c.args.denominator c.requires.denominator c.requires.positive

pub row_total-requires-clause-denominator : goal.row_total-requires-clause-denominator
row_total-requires-clause-denominator c = short_again c.args.denominator c.requires.denominator

pub returns-in-Some : goal.returns-in-Some
returns-in-Some c =
    let d = c.args.denominator in
    let d_is : to_z w64 (of_z w64 d) ≡ d = short_read d c.requires.denominator in
    subst (λ e. IfSome c.standing_total.result (λ total. IsRowTotal c.args.self.now c.args.row e total)) d_is c.standing_total.ensures

pub returns-in-None : goal.returns-in-None
returns-in-None c =
    let d = c.args.denominator in
    let d_is : to_z w64 (of_z w64 d) ≡ d = short_read d c.requires.denominator in
    subst (λ e. IfSome c.row_total.result (λ total. IsRowTotal c.args.self.now c.args.row e total)) d_is c.row_total.ensures
