use Rattle.std.proofs.Common.{◌≡◌, ℕ, List, ◌++◌, ◌∙◌, subst}
use Rattle.std.specs.Prelude.{IfOk}
use Rattle.reply_texts.proofs.pieces.write_count.Goals as goal

pub returns : goal.returns
returns c =
    subst (λ (t : List ℕ). IfOk c.write_two.result (λ _. c.write_two.new.reply.items ≡ c.args.reply.now.items ++ (c.args.first.now ++ t))) (c.as_bytes.ensures.value ∙ c.format.ensures.text) c.write_two.ensures
