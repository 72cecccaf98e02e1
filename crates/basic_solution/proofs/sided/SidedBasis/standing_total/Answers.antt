use Rattle.std.proofs.Common.{◌≡◌, subst, IfSome, to_z, of_z, w64}
use Rattle.basic_solution.specs.private.RowTotals.{IsRowTotal}
use Rattle.table_entries.proofs.ReadLemmas.{short_read, short_again, positive_again}
use Rattle.basic_solution.proofs.sided.SidedBasis.standing_total.Goals as goal

pub standing_total_of-requires-clause-positive : goal.standing_total_of-requires-clause-positive
standing_total_of-requires-clause-positive c = positive_again c.args.denominator c.requires.denominator c.requires.positive

pub standing_total_of-requires-clause-denominator : goal.standing_total_of-requires-clause-denominator
standing_total_of-requires-clause-denominator c = short_again c.args.denominator c.requires.denominator

pub standing_total_by_entries-requires-clause-positive : goal.standing_total_by_entries-requires-clause-positive
standing_total_by_entries-requires-clause-positive c = positive_again c.args.denominator c.requires.denominator c.requires.positive

pub standing_total_by_entries-requires-clause-denominator : goal.standing_total_by_entries-requires-clause-denominator
standing_total_by_entries-requires-clause-denominator c = short_again c.args.denominator c.requires.denominator

pub returns-in-Some : goal.returns-in-Some
returns-in-Some c =
    let d = c.args.denominator in
    let d_is : to_z w64 (of_z w64 d) ≡ d = short_read d c.requires.denominator in
    subst (λ e. IfSome c.standing_total_of.result (λ total. IsRowTotal c.args.self.now c.args.row e total)) d_is c.standing_total_of.ensures

pub returns-in-None : goal.returns-in-None
returns-in-None c =
    let d = c.args.denominator in
    let d_is : to_z w64 (of_z w64 d) ≡ d = short_read d c.requires.denominator in
    subst (λ e. IfSome c.standing_total_by_entries.result (λ total. IsRowTotal c.args.self.now c.args.row e total)) d_is c.standing_total_by_entries.ensures
