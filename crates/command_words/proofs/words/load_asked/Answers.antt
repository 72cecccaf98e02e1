use Rattle.std.proofs.Common.{ap, ◌∙◌, arith}
use Rattle.command_words.specs.Asks.{load_asks}
use Rattle.command_words.proofs.FormLemmas.{one_word, load_asks-other}
use Rattle.command_words.proofs.words.load_asked.Goals as goal
use Rattle.command_words.proofs.words.load_asked.Goals.{in_default-via-then-arguments-lt1, in_default-via-else-arguments-lt1+else-arguments-lt2+then-arguments-lt3, in_default-via-else-arguments-lt1+else-arguments-lt2+else-arguments-lt3+else-arguments-lt4}

pub returns-in-len1 : goal.returns-in-len1
returns-in-len1 c = c.plain_load.ensures ∙ ap load_asks (one_word c.args.arguments.now (omega arith))

pub returns-in_default : goal.returns-in_default
returns-in_default c =
    elim c.in_default.branch [
      | in_default-via-then-arguments-lt1 w ↦ load_asks-other c.args.arguments.now (grind arith) (grind arith)
      | in_default-via-else-arguments-lt1+else-arguments-lt2+then-arguments-lt3 w ↦ load_asks-other c.args.arguments.now (grind arith) (grind arith)
      | in_default-via-else-arguments-lt1+else-arguments-lt2+else-arguments-lt3+else-arguments-lt4 w ↦ load_asks-other c.args.arguments.now (grind arith) (grind arith)
    ]
