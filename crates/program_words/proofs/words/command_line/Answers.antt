use Rattle.std.proofs.Common.{rules, ap, ap₂, ◌∙◌}
use Rattle.std.proofs.lemmas.Result.{IfOk-weaker}
use Rattle.clap.specs.Words.{App, with_subcommand}
use Rattle.program_words.proofs.words.command_line.Goals as goal

pub returns : goal.returns
returns c =
    IfOk-weaker c.subcommand.result _ _ (λ r h. h.shape (search rules) ∙ ap₂ with_subcommand c.in-Ok-check_command_line.ensures (ap (λ (a : App). a.top) c.in-Ok.ensures.app)) c.subcommand.ensures
