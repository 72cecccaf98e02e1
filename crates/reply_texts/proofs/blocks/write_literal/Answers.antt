use Rattle.std.proofs.Common.{◌≡◌, ◌++◌, subst}
use Rattle.std.specs.Prelude.{IfOk}
use Rattle.reply_texts.proofs.blocks.write_literal.Goals as goal

pub returns : goal.returns
returns c =
    subst (λ P. P) (λ i. IfOk c.write_two.result (λ _. c.write_two.new.reply.items ≡ c.args.reply.now.items ++ (c.sign.ensures i ++ c.column_name.ensures i))) c.write_two.ensures
