use Rattle.std.proofs.Common.{◌≡◌, ◌∙◌, sym, ap, refl, arith, to_z, of_z, w64}
use Rattle.std.proofs.lemmas.Int.{ints}
use Rattle.std.proofs.lemmas.Option.{IfSome_then}
use Rattle.frac128.specs.LowestTerms.{quotient_of}
use Rattle.table_entries.specs.WholeSteps.{whole_number_at}
use Rattle.row_tableau.specs.Layout.{variable_slots}
use Rattle.row_tableau.proofs.LayoutLemmas.{row_there, place_there, entry_is}
use Rattle.row_tableau.proofs.tableau.Tableau.row_over.Goals as goal

pub row_over-requires : goal.row_over-requires
row_over-requires c = row_there c.self.invariant {slice = c.self.inside.positions.items} refl c.self.view_is c.args.row c.requires

pub returns-clause-length : goal.returns-clause-length
returns-clause-length c = IfSome_then c.row_over.result c.row_over.ensures.length (λ r size. size ∙ c.self.invariant.entry_columns ∙ ap (λ t. t.columns) c.self.view_is)

pub returns-clause-value : goal.returns-clause-value
returns-clause-value c =
    let positions = c.self.inside.positions.items in
    let d = c.args.denominator in
    let d_is : to_z w64 (of_z w64 d) ≡ d = let range = c.ranges.denominator in omega (arith, ints, range) in
    IfSome_then c.row_over.result c.row_over.ensures.value
    (λ r each k within. sym (entry_is c.self.invariant {slice = positions} refl c.self.view_is c.args.row k)
    ∙ each (variable_slots positions) k (place_there c.self.invariant {slice = positions} refl c.self.view_is k within) ∙ ap (quotient_of (whole_number_at r.now k)) d_is)
