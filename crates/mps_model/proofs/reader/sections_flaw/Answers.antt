use Rattle.std.proofs.Common.{◌≡◌, refl, ap, sym, ◌∙◌, List}
use Rattle.std.specs.Prelude.{Option, None}
use Rattle.mps_text.specs.Text.{Flaw}
use Rattle.mps_sections.specs.declared.statements.RangeLine.{RangeLine}
use Rattle.mps_model.specs.Faults.{range_flaw, column_flaw, flaw_or}
use Rattle.mps_model.proofs.ReadSteps.{flaw_read}
use Rattle.mps_model.proofs.reader.sections_flaw.Goals as goal

pub returns-in-Some : goal.returns-in-Some
returns-in-Some c =
    let s = c.args.sections.now in
    ap (λ (flaw : Option Flaw). flaw_or flaw (column_flaw c.args.intupper s.bounds s.columns)) (c.in-Some.ensures ∙ ap (λ (found : List RangeLine). range_flaw s found) c.as_slice.ensures)

pub returns-in-None : goal.returns-in-None
returns-in-None c =
    let s = c.args.sections.now in
    let none : range_flaw s s.ranges ≡ None = sym (c.in-None.ensures ∙ ap (λ (found : List RangeLine). range_flaw s found) c.as_slice.ensures) in
    let columns = flaw_read c.args.intupper s c.args.spans.now c.args.columns.now c.column_flaw.result c.column_flaw.result c.requires.columns c.requires.spans c.column_flaw.ensures refl in
    sym (ap (λ (flaw : Option Flaw). flaw_or flaw (column_flaw c.args.intupper s.bounds s.columns)) none ∙ columns)
