use Rattle.std.proofs.Common.{◌∙◌}
use Rattle.row_tableau.proofs.LayoutLemmas.{slots_written, slots_long, row_there, laid_kept, value_kept}
use Rattle.row_tableau.proofs.tableau.Tableau.write_row.Goals as goal

pub write_row-requires-clause-row : goal.write_row-requires-clause-row
write_row-requires-clause-row c = row_there c.self.invariant c.deref.ensures.value c.self.view_is c.args.row c.requires

pub write_row-requires-clause-slots : goal.write_row-requires-clause-slots
write_row-requires-clause-slots c = slots_written c.self.invariant c.deref.ensures.value

pub write_row-requires-clause-length : goal.write_row-requires-clause-length
write_row-requires-clause-length c = slots_long c.self.invariant c.deref.ensures.value

pub invariant_of-self : goal.invariant_of-self
invariant_of-self c = laid_kept c.self.invariant c.write_row.new.self c.deref.ensures.value c.write_row.ensures.filled c.write_row.ensures.columns c.write_row.ensures.rows c.write_row.ensures.columns_written

pub returns : goal.returns
returns c = value_kept c.self.invariant c.write_row.new.self c.deref.ensures.value c.write_row.ensures.filled ∙ c.self.view_is
