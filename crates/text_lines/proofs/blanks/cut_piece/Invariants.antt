use Rattle.std.proofs.Common.{take}
use Rattle.text_lines.specs.Words.{HasNoBlank}
use Rattle.text_lines.proofs.blanks.cut_piece.Given as goal

abbrev pub invariant-loop-end : goal.invariant-loop-end
invariant-loop-end l = HasNoBlank (take l.end l.line)
