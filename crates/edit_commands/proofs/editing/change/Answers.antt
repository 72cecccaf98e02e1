use Rattle.std.proofs.Common.{◌∙◌, sym}
use Rattle.reply_texts.specs.Texts.{ok_text}
use Rattle.command_family.proofs.ReplyLemmas.{on_ok_if, on_err, ok-told}
use Rattle.edit_commands.proofs.EditLemmas.{edits-script, edits-order, edit-told, edit-untold}
use Rattle.edit_commands.proofs.editing.change.Goals as goal

pub returns-clause-script : goal.returns-clause-script
returns-clause-script c = edits-script c.args.env.now c.edit-done.new.self c.args.edit c.edit-done.result c.edit-done.ensures.edits c.requires.named c.requires.near c.requires.script

pub returns-clause-order : goal.returns-clause-order
returns-clause-order c = edits-order c.args.env.now c.edit-done.new.self c.args.edit c.edit-done.result c.edit-done.ensures.edits c.requires.order

pub returns-clause-answered : goal.returns-clause-answered
returns-clause-answered c =
    let reply = c.tell_done.new.reply.items in
    on_ok_if c.tell_done.result
    (edit-told c.args.env.now c.edit-done.new.self c.args.edit c.edit-done.result c.edit-done.ensures.edits c.extend_from_slice.new.self.items reply
    (ok-told c.extend_from_slice.result c.args.reply.now.items c.extend_from_slice.new.self.items ok_text c.extend_from_slice.ensures.items (sym c.is_err.ensures.value ∙ c.if-is_err.false) c.requires.empty))
    c.tell_done.ensures.told

pub returns-clause-unfinished : goal.returns-clause-unfinished
returns-clause-unfinished c =
    on_err c.tell_done.result (edit-untold c.args.env.now c.edit-done.new.self c.args.edit c.edit-done.result c.edit-done.ensures.edits) c.tell_done.ensures.refused
