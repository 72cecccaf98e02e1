use Rattle.std.proofs.Common.{◌≡◌, ◌++◌, take}
use Rattle.std.specs.List.{flat_map}
use Rattle.reply_texts.specs.Places.{change_text}
use Rattle.reply_texts.proofs.blocks.write_changes.Given as goal

abbrev pub invariant-loop-change : goal.invariant-loop-change
invariant-loop-change l = l.reply.items ≡ l.initial.reply.items ++ flat_map (change_text l.model) (take l.change-index l.changes)
