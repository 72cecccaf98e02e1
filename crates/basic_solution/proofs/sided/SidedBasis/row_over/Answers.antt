use Rattle.std.proofs.Common.{◌≡◌, ◌∙◌, ap, arith, subst, to_z, of_z, w64}
use Rattle.std.proofs.lemmas.Int.{ints}
use Rattle.frac128.specs.LowestTerms.{quotient_of}
use Rattle.table_entries.specs.WholeSteps.{whole_number_at}
use Rattle.basic_solution.specs.RowNumbers.{AreEntryNumbers}
use Rattle.basic_solution.proofs.sided.SidedBasis.row_over.Goals as goal

pub returns-in-Some : goal.returns-in-Some
returns-in-Some c =
    let d = c.args.denominator in
    let d_is : to_z w64 (of_z w64 d) ≡ d = let range = c.ranges.denominator in omega (arith, ints, range) in
    let numbers = c.in-Some.entries.now in
    let are = c.in-Some.ensures in
    subst (λ s. AreEntryNumbers s c.args.row d numbers) c.self.view_is
    (record { size = are.length; short = are.short; entries = λ k within. are.value k within ∙ ap (quotient_of (whole_number_at numbers k)) d_is })
