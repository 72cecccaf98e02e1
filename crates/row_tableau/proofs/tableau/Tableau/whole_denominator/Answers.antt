use Rattle.std.proofs.Common.{refl, subst}
use Rattle.std.proofs.lemmas.Option.{IfSome_then}
use Rattle.table_entries.specs.WholeSteps.{IsShortOver}
use Rattle.row_tableau.specs.Layout.{variable_slots}
use Rattle.row_tableau.proofs.LayoutLemmas.{row_there, place_there, entry_is}
use Rattle.row_tableau.proofs.tableau.Tableau.whole_denominator.Goals as goal

pub returns-clause-entries : goal.returns-clause-entries
returns-clause-entries c =
    IfSome_then c.whole_denominator.result c.whole_denominator.ensures.entries
    (λ d each i k i_within k_within.
    subst (IsShortOver d) (entry_is c.self.invariant {slice = c.self.inside.positions.items} refl c.self.view_is i k)
    (each (variable_slots c.self.inside.positions.items) c.self.invariant.columns_written i k (row_there c.self.invariant {slice = c.self.inside.positions.items} refl c.self.view_is i i_within) (place_there c.self.invariant {slice = c.self.inside.positions.items} refl c.self.view_is k k_within)))
