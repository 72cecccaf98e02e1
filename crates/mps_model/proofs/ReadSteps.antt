-- From the lists of a whole text to its model or its fault.
use Rattle.std.proofs.Common.{◌≡◌, ℕ, List, map, sym, ◌∙◌, ap}
use Rattle.std.specs.Prelude.{Option, None, Some, Result, Ok, Err}
use Rattle.lp_model.specs.Program.{Program}
use Rattle.mps_text.specs.Text.{Flaw}
use Rattle.mps_text.specs.declared.lines.LineFault.{LineFault}
use Rattle.mps_sections.specs.Shown.{flaw_shown}
use Rattle.mps_sections.specs.declared.statements.BoundLine.{BoundLine}
use Rattle.mps_sections.specs.declared.statements.ColumnLines.{ColumnLines}
use Rattle.mps_sections.specs.ReadingOf.{AreSectionsOf, IsLineFault}
use Rattle.mps_sections.specs.declared.statements.Sections.{Sections}
use Rattle.mps_model.specs.Meaning.{span_of, model_of}
use Rattle.mps_model.specs.declared.spans.Span.{Span}
use Rattle.mps_model.specs.Faults.{column_flaw, sections_flaw, flaw_of_whole, FaultyModel, InLines, InWhole}
use Rattle.mps_model.specs.Answers.{IsModelAnswer}
use Rattle.mps_model.specs.private.Answers.{IsSectionsAnswer}
use Rattle.mps_model.specs.declared.reader.MpsFault.{MpsFault}
use Rattle.mps_model.specs.declared.reader.MpsFault.TheVariants.{Bad, Memory}

pub of_line : (text : List ℕ) (intupper : Option ℕ) (flaw : Flaw) → IsLineFault text flaw → FaultyModel text intupper flaw
of_line text intupper flaw h = InLines h

flaw_stated : (text : List ℕ) (intupper : Option ℕ) (s : Sections) (found : Option Flaw) (w : AreSectionsOf text s) → sections_flaw s intupper ≡ found → flaw_of_whole w.entries intupper ≡ found
unfolding flaw_of_whole
flaw_stated text intupper s found w f = ap (λ (t : Sections). sections_flaw t intupper) (sym w.is) ∙ f

-- what the lists of a whole text answer, the text answers
pub of_sections : (text : List ℕ) (intupper : Option ℕ) (s : Sections) (answer : Result Program MpsFault) → AreSectionsOf text s → IsSectionsAnswer s intupper answer → IsModelAnswer text intupper answer
of_sections text intupper s (Ok m) w h = record { entries = w.entries; whole = w.whole; flawless = flaw_stated text intupper s None w h.0; is = h.1 ∙ ap (λ (t : Sections). model_of t intupper) w.is }
of_sections text intupper s (Err (Bad line code)) w h = InWhole w.entries w.whole (flaw_stated text intupper s (Some (record { line = line; code = code })) w h)
of_sections text intupper s (Err Memory) w h = tt

-- the first column's fault, as it was looked for
pub flaw_read : (intupper : Option ℕ) (s : Sections) (spans : List Span) (columns : List ColumnLines) (result found : Option LineFault) → columns ≡ s.columns → spans ≡ map (span_of s.bounds) s.columns
    → ((bounds : List BoundLine) → spans ≡ map (span_of bounds) columns → flaw_shown result ≡ column_flaw intupper bounds columns) → result ≡ found → column_flaw intupper s.bounds s.columns ≡ flaw_shown found
flaw_read intupper s spans columns result found c e h is =
    let same : spans ≡ map (span_of s.bounds) columns = e ∙ ap (map (span_of s.bounds)) (sym c) in
    ap (column_flaw intupper s.bounds) (sym c) ∙ sym (h s.bounds same) ∙ ap flaw_shown is
