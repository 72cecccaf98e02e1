use Rattle.std.proofs.Common.{◌++◌, ap, refl, ◌∙◌}
use Rattle.reply_texts.specs.Texts.{memory_text}
use Rattle.command_files.specs.Reading.{refusal_text}
use Rattle.file_commands.proofs.RestoreLemmas.{text-step, untold-step, unread-step}
use Rattle.command_files.proofs.FileLemmas.{on_ok, on_ok_if, on_err, always}
use Rattle.file_commands.proofs.restoring.restore.Goals as goal

pub returns-in-Ok-clause-answered : goal.returns-in-Ok-clause-answered
returns-in-Ok-clause-answered g c =
    let files = g.S.Store.files c.args.store.now in
    let faults = g.S.Store.faults c.args.store.now in
    let after = g.S.Store.files c.read_text.new.store in
    let later = g.S.Store.faults c.read_text.new.store in
    let reply = c.take_text.new.reply.items in
    on_ok c.take_text.result
    (text-step c.args.env.now c.take_text.new.env files after faults later c.args.name.now reply c.read_text.ensures.kept c.read_text.ensures.later c.deref.result.now c.in-Ok.text c.deref.ensures.value c.in-Ok.ensures.answer)
    c.take_text.ensures.answered

pub returns-in-Ok-clause-unfinished : goal.returns-in-Ok-clause-unfinished
returns-in-Ok-clause-unfinished g c =
    let files = g.S.Store.files c.args.store.now in
    let faults = g.S.Store.faults c.args.store.now in
    let after = g.S.Store.files c.read_text.new.store in
    let later = g.S.Store.faults c.read_text.new.store in
    on_err c.take_text.result
    (λ same. untold-step c.args.env.now c.take_text.new.env files after faults later c.args.name.now memory_text c.read_text.ensures.kept c.read_text.ensures.later same refl)
    c.take_text.ensures.unfinished

pub returns-in-Err-clause-answered : goal.returns-in-Err-clause-answered
returns-in-Err-clause-answered g c =
    let files = g.S.Store.files c.args.store.now in
    let faults = g.S.Store.faults c.args.store.now in
    let after = g.S.Store.files c.read_text.new.store in
    let later = g.S.Store.faults c.read_text.new.store in
    let reply = c.write_refusal.new.reply.items in
    on_ok_if c.write_refusal.result
    (λ e. unread-step c.args.env.now c.args.env.now files after faults later c.args.name.now reply c.read_text.ensures.kept c.read_text.ensures.later c.in-Err.unread c.in-Err.ensures.answer refl (e ∙ ap (λ t. t ++ refusal_text c.in-Err.unread) c.requires.empty))
    c.write_refusal.ensures

pub returns-in-Err-clause-unfinished : goal.returns-in-Err-clause-unfinished
returns-in-Err-clause-unfinished g c =
    let files = g.S.Store.files c.args.store.now in
    let faults = g.S.Store.faults c.args.store.now in
    let after = g.S.Store.files c.read_text.new.store in
    let later = g.S.Store.faults c.read_text.new.store in
    always c.write_refusal.result (untold-step c.args.env.now c.args.env.now files after faults later c.args.name.now memory_text c.read_text.ensures.kept c.read_text.ensures.later refl refl)
