use Rattle.std.proofs.Common.{◌++◌, ap, refl, inr, ◌∙◌}
use Rattle.command_files.specs.Reading.{refusal_text}
use Rattle.file_commands.proofs.LoadLemmas.{load-step, wants-step}
use Rattle.command_files.proofs.FileLemmas.{on_ok, on_ok_if, on_err, always}
use Rattle.file_commands.proofs.loading.load.Goals as goal

pub returns-in-Ok-clause-answered : goal.returns-in-Ok-clause-answered
returns-in-Ok-clause-answered g c =
    let files = g.S.Store.files c.args.store.now in
    let faults = g.S.Store.faults c.args.store.now in
    let after = g.S.Store.files c.read_model.new.store in
    let later = g.S.Store.faults c.read_model.new.store in
    on_ok c.keep.result
    (load-step c.args.env.now c.keep.new.env c.in-Ok.model files after faults later c.args.name.now c.args.intupper c.keep.new.reply.items c.read_model.ensures.kept c.read_model.ensures.later c.in-Ok.ensures.answer)
    c.keep.ensures.kept

pub returns-in-Ok-clause-unfinished : goal.returns-in-Ok-clause-unfinished
returns-in-Ok-clause-unfinished g c =
    let files = g.S.Store.files c.args.store.now in
    let faults = g.S.Store.faults c.args.store.now in
    let after = g.S.Store.files c.read_model.new.store in
    let later = g.S.Store.faults c.read_model.new.store in
    on_err c.keep.result (wants-step c.args.env.now c.keep.new.env files after faults later c.args.name.now c.args.intupper c.read_model.ensures.kept c.read_model.ensures.later) c.keep.ensures.unfinished

pub returns-in-Err-clause-answered : goal.returns-in-Err-clause-answered
returns-in-Err-clause-answered g c =
    on_ok_if c.write_refusal.result
    (λ e. record {
      files = c.read_model.ensures.kept;
      later = c.read_model.ensures.later;
      answer = inr (record { refusal = c.in-Err.refusal; told = e ∙ ap (λ t. t ++ refusal_text c.in-Err.refusal) c.requires.empty; cause = c.in-Err.ensures.answer; kept = refl });
    })
    c.write_refusal.ensures

pub returns-in-Err-clause-unfinished : goal.returns-in-Err-clause-unfinished
returns-in-Err-clause-unfinished g c =
    let files = g.S.Store.files c.args.store.now in
    let faults = g.S.Store.faults c.args.store.now in
    let after = g.S.Store.files c.read_model.new.store in
    let later = g.S.Store.faults c.read_model.new.store in
    always c.write_refusal.result (wants-step c.args.env.now c.args.env.now files after faults later c.args.name.now c.args.intupper c.read_model.ensures.kept c.read_model.ensures.later refl)
