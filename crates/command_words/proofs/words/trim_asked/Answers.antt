use Rattle.std.proofs.Common.{arith}
use Rattle.command_words.proofs.FormLemmas.{trim_asks-other}
use Rattle.command_words.proofs.words.trim_asked.Goals as goal

pub returns-in_default : goal.returns-in_default
returns-in_default c = trim_asks-other c.args.arguments.now (grind arith) (grind arith)
