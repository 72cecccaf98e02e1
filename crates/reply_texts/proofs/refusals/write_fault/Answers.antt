use Rattle.std.proofs.Common.{◌≡◌, ℕ, List, ◌++◌, ◌∙◌, subst}
use Rattle.std.specs.Prelude.{codes, decimal, IfOk}
use Rattle.reply_texts.proofs.TextLemmas.{join_last_three}
use Rattle.reply_texts.proofs.refusals.write_fault.Goals as goal

pub returns : goal.returns
returns c =
    join_last_three c.write_line.result c.args.reply.now.items (c.args.first.now ++ c.args.place.now) (codes " code ") (decimal c.args.code) (codes "\n") c.write_two.new.reply.items c.write_line.new.reply.items c.in-Ok.ensures
    (subst (λ (t : List ℕ). IfOk c.write_line.result (λ _. c.write_line.new.reply.items ≡ c.write_two.new.reply.items ++ ((codes " code " ++ t) ++ codes "\n"))) (c.as_bytes.ensures.value ∙ c.format.ensures.text) c.write_line.ensures)
