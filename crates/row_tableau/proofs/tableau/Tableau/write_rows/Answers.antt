use Rattle.std.proofs.Common.{◌∙◌}
use Rattle.row_tableau.specs.Layout.{variable_slots}
use Rattle.row_tableau.proofs.LayoutLemmas.{slots_written, slots_long, laid_kept, value_kept}
use Rattle.row_tableau.proofs.tableau.Tableau.write_rows.Goals as goal

pub write_all-requires-clause-slots : goal.write_all-requires-clause-slots
write_all-requires-clause-slots c = slots_written c.self.invariant c.deref.ensures.value

pub write_all-requires-clause-length : goal.write_all-requires-clause-length
write_all-requires-clause-length c = slots_long c.self.invariant c.deref.ensures.value

pub invariant_of-self : goal.invariant_of-self
invariant_of-self c = laid_kept c.self.invariant c.write_all.new.self c.deref.ensures.value c.write_all.ensures.filled c.write_all.ensures.columns c.write_all.ensures.rows (λ j q in_row. c.write_all.ensures.written (variable_slots c.deref.result.now j))

pub returns : goal.returns
returns c = value_kept c.self.invariant c.write_all.new.self c.deref.ensures.value c.write_all.ensures.filled ∙ c.self.view_is
