use Rattle.std.proofs.Common.{take}
use Rattle.std.specs.List.{All}
use Rattle.frac128.specs.Range.{Fits}
use Rattle.reply_texts.proofs.answers.have_room.Given as goal

abbrev pub invariant-loop-number : goal.invariant-loop-number
invariant-loop-number l = All Fits (take l.number-index l.numbers)
