use Rattle.std.proofs.Common.{◌≡◌, ◌++◌, take}
use Rattle.std.specs.List.{flat_map}
use Rattle.reply_texts.specs.Places.{literal_text}
use Rattle.reply_texts.proofs.blocks.write_literals.Given as goal

abbrev pub invariant-loop-literal : goal.invariant-loop-literal
invariant-loop-literal l = l.reply.items ≡ l.initial.reply.items ++ flat_map (literal_text l.model) (take l.literal-index l.literals)
