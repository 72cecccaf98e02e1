use Rattle.std.proofs.Common.{ap, sym, ◌∙◌, false, pos}
use Rattle.std.proofs.lemmas.Bool.{false≢true}
use Rattle.table_entries.specs.WholeSteps.{is_unwritten}
use Rattle.table_entries.proofs.FilledLemmas.{filled_full, none_marked}
use Rattle.table_entries.proofs.parts.all_written.Goals as goal

pub returns-clause-filled : goal.returns-clause-filled
returns-clause-filled c = λ slots.
    filled_full (record { rows = c.args.rows; columns = c.args.columns; entries = c.args.entries; coefficients = c.new.result.items; unwritten = c.in-Ok.unwritten.items; is_partial = false; limit = pos 1 }) slots
    (λ i. ap (λ flags. is_unwritten flags i) (c.in-Ok.ensures.items_if_clones_equal (λ y e. e)) ∙ none_marked c.args.rows i) c.requires.size

pub invariant_of-result : goal.invariant_of-result
invariant_of-result c = record {
  few = c.requires.room;
  flags = sym c.in-Ok.unwritten.ok.0 ∙ c.in-Ok.ensures.len;
  entries = c.requires.size;
  full = λ none i. ap (λ flags. is_unwritten flags i) (c.in-Ok.ensures.items_if_clones_equal (λ y e. e)) ∙ none_marked c.args.rows i;
  partial = λ some. absurd (false≢true some);
}
