use Rattle.std.proofs.Common.{take}
use Rattle.text_lines.specs.Lines.{HasNoNewline}
use Rattle.text_lines.proofs.lines.cut_line.Given as goal

abbrev pub invariant-loop-end : goal.invariant-loop-end
invariant-loop-end l = HasNoNewline (take l.end l.text)
