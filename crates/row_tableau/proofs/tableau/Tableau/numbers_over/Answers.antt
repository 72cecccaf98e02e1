use Rattle.std.proofs.Common.{◌≡◌, ◌+◌, ◌*◌, ◌∙◌, sym, ap, refl, arith, to_z, of_z, w64}
use Rattle.std.proofs.lemmas.Int.{ints}
use Rattle.std.proofs.lemmas.Option.{IfSome_then}
use Rattle.frac128.specs.LowestTerms.{quotient_of}
use Rattle.table_entries.specs.WholeSteps.{whole_number_at}
use Rattle.row_tableau.specs.Layout.{variable_slots}
use Rattle.row_tableau.proofs.LayoutLemmas.{row_there, place_there, entry_is, column_row_written}
use Rattle.row_tableau.proofs.tableau.Tableau.numbers_over.Goals as goal

pub returns-clause-length : goal.returns-clause-length
returns-clause-length c =
    let laid = c.self.invariant in
    IfSome_then c.numbers_over.result c.numbers_over.ensures.length
    (λ r size. size ∙ (λ i. laid.entry_rows i * laid.entry_columns i) ∙ ap (λ t. t.activities * t.columns) c.self.view_is)

pub returns-clause-value : goal.returns-clause-value
returns-clause-value c =
    let laid = c.self.invariant in
    let positions = c.self.inside.positions.items in
    let d = c.args.denominator in
    let d_is : to_z w64 (of_z w64 d) ≡ d = let range = c.ranges.denominator in omega (arith, ints, range) in
    let columns : c.self.inside.entries.columns ≡ c.args.self.now.columns = laid.entry_columns ∙ ap (λ t. t.columns) c.self.view_is in
    IfSome_then c.numbers_over.result c.numbers_over.ensures.value
    (λ r each i k i_within k_within column. sym (entry_is laid {slice = positions} refl c.self.view_is i k)
    ∙ each (variable_slots positions) i k (row_there laid {slice = positions} refl c.self.view_is i i_within) (place_there laid {slice = positions} refl c.self.view_is k k_within) (column_row_written laid c.self.view_is i i_within column)
    ∙ (λ z. quotient_of (whole_number_at r.now (i * columns z + k)) (d_is z)))
