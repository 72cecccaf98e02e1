use Rattle.std.proofs.Common.{◌≡◌, ◌++◌, ◌∙◌, ap, subst}
use Rattle.std.specs.Prelude.{IfOk}
use Rattle.reply_texts.specs.Places.{basis_line, high_line}
use Rattle.reply_texts.proofs.TextLemmas.{join_last}
use Rattle.reply_texts.proofs.blocks.write_basis.Goals as goal

pub returns : goal.returns
returns c =
    let before = c.write_variable_line.new.reply.items in
    join_last c.write_variable_line-2.result c.args.reply.now.items (basis_line c.args.model.now c.args.basis.now.basic) (high_line c.args.model.now c.args.basis.now.high) before c.write_variable_line-2.new.reply.items
    (c.in-Ok.ensures ∙ ap (λ variables. c.args.reply.now.items ++ basis_line c.args.model.now variables) c.as_slice.ensures)
    (subst (λ variables. IfOk c.write_variable_line-2.result (λ _. c.write_variable_line-2.new.reply.items ≡ before ++ high_line c.args.model.now variables)) c.as_slice-2.ensures c.write_variable_line-2.ensures)
