use Rattle.std.proofs.Common.{◌≡◌, length, ◌+◌}
use Rattle.text_lines.specs.Lines.{lines_of}
use Rattle.mps_text.specs.Reading.{items_left, number_behind}
use Rattle.mps_sections.specs.private.Shown.{held}
use Rattle.mps_sections.proofs.ReadingSteps.{IsBehind}
use Rattle.mps_sections.proofs.reading.note_lines.Given as goal

abbrev pub invariant-loop-item : goal.invariant-loop-item
invariant-loop-item l = record { behind : IsBehind l.text (items_left l.lines) (held l.tables); last : number_behind l.lines ≡ 1 + length (lines_of l.text) }

abbrev pub decreases-loop-item : goal.decreases-loop-item
decreases-loop-item l = length (items_left l.lines)
