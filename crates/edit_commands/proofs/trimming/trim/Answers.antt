use Rattle.std.proofs.Common.{◌∙◌, sym}
use Rattle.reply_texts.specs.Texts.{ok_text}
use Rattle.command_family.proofs.ReplyLemmas.{on_ok_if, on_err, ok-told}
use Rattle.edit_commands.proofs.TrimLemmas.{trims-script, trims-order, trim-told, trim-untold}
use Rattle.edit_commands.proofs.trimming.trim.Goals as goal

pub returns-clause-script : goal.returns-clause-script
returns-clause-script c = trims-script c.args.env.now c.trim-done.new.self c.args.depth c.trim-done.result c.trim-done.ensures.trims c.requires.script

pub returns-clause-order : goal.returns-clause-order
returns-clause-order c = trims-order c.args.env.now c.trim-done.new.self c.args.depth c.trim-done.result c.trim-done.ensures.trims c.requires.order

pub returns-clause-answered : goal.returns-clause-answered
returns-clause-answered c =
    let reply = c.tell_done.new.reply.items in
    on_ok_if c.tell_done.result
    (trim-told c.args.env.now c.trim-done.new.self c.args.depth c.trim-done.result c.trim-done.ensures.trims c.extend_from_slice.new.self.items reply
    (ok-told c.extend_from_slice.result c.args.reply.now.items c.extend_from_slice.new.self.items ok_text c.extend_from_slice.ensures.items (sym c.is_err.ensures.value ∙ c.if-is_err.false) c.requires.empty))
    c.tell_done.ensures.told

pub returns-clause-unfinished : goal.returns-clause-unfinished
returns-clause-unfinished c =
    on_err c.tell_done.result (trim-untold c.args.env.now c.trim-done.new.self c.args.depth c.trim-done.result c.trim-done.ensures.trims) c.tell_done.ensures.refused
