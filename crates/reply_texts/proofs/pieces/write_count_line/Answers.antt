use Rattle.std.proofs.Common.{◌≡◌, ℕ, List, ◌++◌, ◌∙◌, subst}
use Rattle.std.specs.Prelude.{codes, IfOk}
use Rattle.reply_texts.proofs.pieces.write_count_line.Goals as goal

pub returns : goal.returns
returns c =
    subst (λ (t : List ℕ). IfOk c.write_line.result (λ _. c.write_line.new.reply.items ≡ c.args.reply.now.items ++ ((c.args.first.now ++ t) ++ codes "\n"))) (c.as_bytes.ensures.value ∙ c.format.ensures.text) c.write_line.ensures
