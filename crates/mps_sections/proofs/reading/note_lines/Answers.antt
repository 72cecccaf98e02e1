use Rattle.std.proofs.Common.{◌≡◌, ◌∷◌, ◌∙◌, ap, sym, length, arith, ℕ, suc}
use Rattle.std.specs.Prelude.{Ok, Err}
use Rattle.text_lines.specs.Lines.{lines_of}
use Rattle.mps_text.specs.Text.{Flaw}
use Rattle.mps_text.specs.Reading.{items_left, item_of, entry_of_record, flaw_of}
use Rattle.mps_sections.specs.private.Shown.{held}
use Rattle.mps_sections.specs.ReadingOf.{OnLine, NoEnd}
use Rattle.mps_sections.proofs.ReadingSteps.{bad_line, stopped, last_line, next_line, no_line}
use Rattle.mps_sections.proofs.reading.note_lines.Goals as goal

abbrev the_flaw : ℕ → Flaw
the_flaw n = record { line = n; code = 4 }

pub returns-in-Err : goal.returns-in-Err
returns-in-Err c =
    let more = items_left c.next.new.self in
    let shown : items_left c.loop-item.lines ≡ Err (flaw_of c.in-Err.fault) ∷ more = c.in-Some.ensures.shown ∙ ap (λ i. item_of i ∷ more) c.in-Err.is in
    OnLine (bad_line c.args.text.now (items_left c.loop-item.lines) more (held c.loop-item.tables) (flaw_of c.in-Err.fault) c.loop-item.invariant.behind shown)

pub returns-in-Err-read_line : goal.returns-in-Err-read_line
returns-in-Err-read_line c =
    let more = items_left c.next.new.self in
    let shown : items_left c.loop-item.lines ≡ Ok (entry_of_record c.in-Ok.entry) ∷ more = c.in-Some.ensures.shown ∙ ap (λ i. item_of i ∷ more) c.in-Ok.is in
    stopped c.args.text.now (items_left c.loop-item.lines) more (held c.loop-item.tables) (entry_of_record c.in-Ok.entry) c.in-Err-read_line.stop c.loop-item.invariant.behind shown c.in-Err-read_line.ensures

pub returns-then-is_end : goal.returns-then-is_end
returns-then-is_end c =
    let more = items_left c.next.new.self in
    let shown : items_left c.loop-item.lines ≡ Ok (entry_of_record c.in-Ok.entry) ∷ more = c.in-Some.ensures.shown ∙ ap (λ i. item_of i ∷ more) c.in-Ok.is in
    let noted = c.in_default-read_line.ensures in
    last_line c.args.text.now (items_left c.loop-item.lines) more (held c.loop-item.tables) (held c.read_line.new.tables) (entry_of_record c.in-Ok.entry) c.loop-item.invariant.behind shown noted.0 noted.1 (sym c.is_end.ensures ∙ c.if-is_end.true)

pub loop-item-preserved : goal.loop-item-preserved
loop-item-preserved c =
    let more = items_left c.next.new.self in
    let shown : items_left c.loop-item.lines ≡ Ok (entry_of_record c.in-Ok.entry) ∷ more = c.in-Some.ensures.shown ∙ ap (λ i. item_of i ∷ more) c.in-Ok.is in
    let noted = c.in_default-read_line.ensures in
    record {
      behind = next_line c.args.text.now (items_left c.loop-item.lines) more (held c.loop-item.tables) (held c.read_line.new.tables) (entry_of_record c.in-Ok.entry) c.loop-item.invariant.behind shown noted.0 noted.1 (sym c.is_end.ensures ∙ c.if-is_end.false);
      last = c.in-Some.ensures.behind ∙ c.loop-item.invariant.last;
    }

pub returns : goal.returns
returns c =
    let none = c.in_default.ensures.shown in
    let line : c.next_number-line.result ≡ suc (length (lines_of c.args.text.now)) = omega (arith, c.next_number-line.ensures, ap length c.in_default.ensures.over, c.in_default.ensures.behind, c.loop-item.invariant.last) in
    NoEnd (no_line c.args.text.now (items_left c.loop-item.lines) (held c.loop-item.tables) c.loop-item.invariant.behind none.0) (ap (λ n. the_flaw n) line)
