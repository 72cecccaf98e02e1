use Rattle.std.proofs.Common.{◌≡◌, ℕ, List, ◌++◌, subst}
use Rattle.std.specs.Prelude.{codes, IfOk}
use Rattle.reply_texts.proofs.names.write_column.Goals as goal

pub returns : goal.returns
returns c =
    subst (λ (t : List ℕ). IfOk c.write_two.result (λ _. c.write_two.new.reply.items ≡ c.args.reply.now.items ++ (codes "col " ++ t))) c.column_name.ensures c.write_two.ensures
