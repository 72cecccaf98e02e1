use Rattle.std.proofs.Common.{◌≡◌, ◌++◌, take}
use Rattle.std.specs.List.{flat_map}
use Rattle.reply_texts.specs.Places.{next_text}
use Rattle.reply_texts.proofs.names.write_variables.Given as goal

abbrev pub invariant-loop-variable : goal.invariant-loop-variable
invariant-loop-variable l = l.reply.items ≡ l.initial.reply.items ++ flat_map (next_text l.model) (take l.variable-index l.variables)
