use Rattle.std.proofs.Common.{◌++◌, ap, subst, ◌∙◌}
use Rattle.lp_model.specs.Lawful.{IsLawful}
use Rattle.reply_texts.specs.Texts.{ok_text}
use Rattle.shell_replies.specs.Faults.{warm_fault_text}
use Rattle.command_files.proofs.FileLemmas.{on_ok_if}
use Rattle.file_commands.specs.private.Saving.{Taken}
use Rattle.file_commands.proofs.RestoreLemmas.{restored-order, restored-script, search-script, text-untaken}
use Rattle.file_commands.proofs.restoring.take_text.Goals as goal

pub returns-in-Ok-clause-answered : goal.returns-in-Ok-clause-answered
returns-in-Ok-clause-answered c =
    Taken (c.in_ok-extend_from_slice.ensures.items ∙ ap (λ t. t ++ ok_text) c.requires.empty) (record { search = c.in-Ok.search; stated = c.in-Ok.ensures; env_is = c.restore.ensures })

pub returns-in-Ok-clause-script : goal.returns-in-Ok-clause-script
returns-in-Ok-clause-script c = search-script c.in-Ok.search c.restore.new.self (restored-script c.args.text.now c.in-Ok.search c.in-Ok.ensures) c.restore.ensures

pub returns-in-Ok-clause-order : goal.returns-in-Ok-clause-order
returns-in-Ok-clause-order c = restored-order c.args.text.now c.in-Ok.search c.restore.new.self c.in-Ok.ensures (subst IsLawful c.model.ensures c.cols-lawful.ensures.lawful) c.restore.ensures

pub returns-in-Err-clause-answered : goal.returns-in-Err-clause-answered
returns-in-Err-clause-answered c =
    on_ok_if c.write_warm_fault.result
    (λ e. text-untaken c.args.text.now c.args.env.now c.write_warm_fault.new.reply.items c.in-Err.fault c.in-Err.ensures (e ∙ ap (λ t. t ++ warm_fault_text c.in-Err.fault) c.clear.ensures.items))
    c.write_warm_fault.ensures
