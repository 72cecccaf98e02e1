use Rattle.std.proofs.Common.{ap, ◌++◌, ◌∙◌}
use Rattle.std.proofs.lemmas.Result.{IfOk-weaker}
use Rattle.command_files.specs.Checking.{cert_refusal_text}
use Rattle.command_files.specs.private.Checking.{JudgedFor, RefusedFor}
use Rattle.command_files.proofs.CheckLemmas.{verdict-first}
use Rattle.command_files.proofs.checking.check_for.Goals as goal

pub returns-clause-answer : goal.returns-clause-answer
returns-clause-answer g c =
    let M = c.args.program.now in
    let cert = c.in-Ok.certificate in
    IfOk-weaker c.write_any_judged-told.result _ _
    (λ _ w. JudgedFor cert c.in-Ok.ensures.answer (verdict-first M cert c.args.reply.now.items c.write_any_judged-told.new.reply.items c.requires.empty w))
    c.write_any_judged-told.ensures

pub returns-in-Err-clause-answer : goal.returns-in-Err-clause-answer
returns-in-Err-clause-answer g c =
    let refusal = c.in-Err.refusal in
    IfOk-weaker c.write_cert_refusal.result _ _
    (λ _ e. RefusedFor refusal c.in-Err.ensures.answer (e ∙ ap (λ t. t ++ cert_refusal_text refusal) c.requires.empty))
    c.write_cert_refusal.ensures
