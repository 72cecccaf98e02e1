use Rattle.std.proofs.Common.{ap, ◌∙◌, arith}
use Rattle.command_words.specs.Asks.{file_asks}
use Rattle.command_words.proofs.FormLemmas.{one_word, file_asks-other}
use Rattle.command_words.proofs.words.file_asked.Goals as goal

pub returns-in-len1 : goal.returns-in-len1
returns-in-len1 c = c.named_file.ensures ∙ ap (file_asks c.args.content) (one_word c.args.arguments.now (omega arith))

pub returns-in_default : goal.returns-in_default
returns-in_default c = file_asks-other c.args.content c.args.arguments.now (grind arith)
