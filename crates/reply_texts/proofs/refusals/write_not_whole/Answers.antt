use Rattle.std.proofs.Common.{◌≡◌, ℕ, List, ◌++◌, ◌∙◌, ap, subst}
use Rattle.std.specs.Prelude.{codes, decimal, IfOk}
use Rattle.reply_texts.proofs.TextLemmas.{join_last_three}
use Rattle.reply_texts.specs.Texts.{not_whole_word}
use Rattle.reply_texts.proofs.refusals.write_not_whole.Goals as goal

pub returns : goal.returns
returns c =
    let objective = codes "error 12 not whole " ++ decimal c.args.which in
    let word = not_whole_word c.args.model.now c.args.column in
    join_last_three c.write_line.result c.args.reply.now.items objective (codes " ") word (codes "\n") c.write_two.new.reply.items c.write_line.new.reply.items
    (c.in-Ok.ensures ∙ ap (λ (t : List ℕ). c.args.reply.now.items ++ (codes "error 12 not whole " ++ t)) (c.as_bytes.ensures.value ∙ c.format.ensures.text))
    (subst (λ (t : List ℕ). IfOk c.write_line.result (λ _. c.write_line.new.reply.items ≡ c.write_two.new.reply.items ++ ((codes " " ++ t) ++ codes "\n"))) c.not_whole_word.ensures c.write_line.ensures)
