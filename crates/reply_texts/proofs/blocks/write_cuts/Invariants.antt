use Rattle.std.proofs.Common.{◌≡◌, ◌++◌, take}
use Rattle.reply_texts.specs.Places.{cut_lines}
use Rattle.reply_texts.proofs.blocks.write_cuts.Given as goal

abbrev pub invariant-loop-index : goal.invariant-loop-index
invariant-loop-index l = l.reply.items ≡ l.initial.reply.items ++ cut_lines l.model 1 (take l.index l.cuts)
