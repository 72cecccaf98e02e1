use Rattle.std.proofs.Common.{◌≡◌, ◌++◌, take}
use Rattle.reply_texts.specs.Texts.{column_lines}
use Rattle.reply_texts.proofs.answers.write_columns.Given as goal

abbrev pub invariant-loop-index : goal.invariant-loop-index
invariant-loop-index l = l.reply.items ≡ l.initial.reply.items ++ column_lines (take l.index l.columns) (take l.index l.numbers)
