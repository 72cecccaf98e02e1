use Rattle.std.proofs.Common.{◌∙◌}
use Rattle.row_tableau.proofs.LayoutLemmas.{slots_written, slots_long, row_there, place_there, entry_is}
use Rattle.row_tableau.proofs.tableau.Tableau.entry.Goals as goal

pub at-requires-clause-row : goal.at-requires-clause-row
at-requires-clause-row c = row_there c.self.invariant c.deref.ensures.value c.self.view_is c.args.row c.requires.row

pub at-requires-clause-place : goal.at-requires-clause-place
at-requires-clause-place c = place_there c.self.invariant c.deref.ensures.value c.self.view_is c.args.place c.requires.place

pub at-requires-clause-slots : goal.at-requires-clause-slots
at-requires-clause-slots c = slots_written c.self.invariant c.deref.ensures.value

pub at-requires-clause-length : goal.at-requires-clause-length
at-requires-clause-length c = slots_long c.self.invariant c.deref.ensures.value

pub returns : goal.returns
returns c = c.at.ensures ∙ entry_is c.self.invariant c.deref.ensures.value c.self.view_is c.args.row c.args.place
