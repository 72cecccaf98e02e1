use Rattle.std.proofs.Common.{sym, ap, refl, inl, inr, ◌∙◌}
use Rattle.std.specs.Option.{option_copied}
use Rattle.reply_texts.specs.Texts.{no_model_text, memory_text}
use Rattle.command_files.proofs.FileLemmas.{told, on_ok, on_err, always}
use Rattle.file_commands.proofs.WriteLemmas.{model-written, no-model}
use Rattle.file_commands.proofs.writing.write.Goals as goal

pub returns-in-Some-clause-answered : goal.returns-in-Some-clause-answered
returns-in-Some-clause-answered g c =
    let files = g.S.Store.files c.args.store.now in
    let faults = g.S.Store.faults c.args.store.now in
    let after = g.S.Store.files c.write_model.new.store in
    let later = g.S.Store.faults c.write_model.new.store in
    let reply = c.write_model.new.reply.items in
    on_ok c.write_model.result (model-written c.args.env.now files after faults later c.args.name.now reply c.in-Some.model.now c.requires.script (sym c.model.ensures ∙ ap option_copied c.in-Some.is) c.write_model.ensures.later) c.write_model.ensures.answered

pub returns-in-Some-clause-unfinished : goal.returns-in-Some-clause-unfinished
returns-in-Some-clause-unfinished g c =
    let files = g.S.Store.files c.args.store.now in
    let faults = g.S.Store.faults c.args.store.now in
    let after = g.S.Store.files c.write_model.new.store in
    let later = g.S.Store.faults c.write_model.new.store in
    on_err c.write_model.result (model-written c.args.env.now files after faults later c.args.name.now memory_text c.in-Some.model.now c.requires.script (sym c.model.ensures ∙ ap option_copied c.in-Some.is) c.write_model.ensures.later) c.write_model.ensures.unfinished

pub returns-in-None-clause-answered : goal.returns-in-None-clause-answered
returns-in-None-clause-answered g c =
    let files = g.S.Store.files c.args.store.now in
    let faults = g.S.Store.faults c.args.store.now in
    let reply = c.extend_from_slice.new.self.items in
    told c.extend_from_slice.result c.args.reply.now.items reply no_model_text c.extend_from_slice.ensures.items c.requires.empty (λ e. no-model c.args.env.now files faults c.args.name.now reply (sym c.model.ensures ∙ ap option_copied c.in-None.is) (inl e))

pub returns-in-None-clause-unfinished : goal.returns-in-None-clause-unfinished
returns-in-None-clause-unfinished g c =
    let files = g.S.Store.files c.args.store.now in
    let faults = g.S.Store.faults c.args.store.now in
    always c.extend_from_slice.result (no-model c.args.env.now files faults c.args.name.now memory_text (sym c.model.ensures ∙ ap option_copied c.in-None.is) (inr refl))
