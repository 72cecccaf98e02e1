use Rattle.std.proofs.Common.{◌∙◌, sym}
use Rattle.reply_texts.specs.Texts.{ok_text}
use Rattle.command_family.proofs.ReplyLemmas.{on_ok_if, on_err, ok-told}
use Rattle.file_commands.proofs.LoadLemmas.{load-script, load-order, load-told, load-untold}
use Rattle.file_commands.proofs.loading.keep.Goals as goal

pub returns-clause-script : goal.returns-clause-script
returns-clause-script c = load-script c.load-done.result c.args.env.now c.load-done.new.self c.args.model c.load-done.ensures.loaded c.load-done.ensures.kept c.requires.model c.requires.script

pub returns-clause-order : goal.returns-clause-order
returns-clause-order c = load-order c.load-done.result c.args.env.now c.load-done.new.self c.args.model c.load-done.ensures.loaded c.load-done.ensures.kept c.requires.order

pub returns-clause-kept : goal.returns-clause-kept
returns-clause-kept c =
    on_ok_if c.tell_done.result
    (load-told c.load-done.result c.args.env.now c.load-done.new.self c.args.model c.load-done.ensures.loaded c.load-done.ensures.kept c.extend_from_slice.new.self.items c.tell_done.new.reply.items
    (ok-told c.extend_from_slice.result c.args.reply.now.items c.extend_from_slice.new.self.items ok_text c.extend_from_slice.ensures.items (sym c.is_err.ensures.value ∙ c.if-is_err.false) c.requires.empty)
    c.load-done.ensures.fault)
    c.tell_done.ensures.told

pub returns-clause-unfinished : goal.returns-clause-unfinished
returns-clause-unfinished c =
    on_err c.tell_done.result (load-untold c.load-done.result c.args.env.now c.load-done.new.self c.args.model c.load-done.ensures.loaded c.load-done.ensures.kept) c.tell_done.ensures.refused
