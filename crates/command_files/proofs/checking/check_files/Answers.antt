use Rattle.std.specs.Prelude.{None}
use Rattle.std.proofs.Common.{subst}
use Rattle.std.proofs.lemmas.Result.{IfOk-weaker}
use Rattle.mps_model.specs.Faults.{MeantModel}
use Rattle.command_files.specs.Reading.{HasText}
use Rattle.command_files.proofs.CheckLemmas.{checks-both}
use Rattle.command_files.proofs.checking.check_files.Goals as goal

pub returns-clause-answer : goal.returns-clause-answer
returns-clause-answer g c =
    let M = c.in-Ok.program in
    let read = subst (λ name. HasText (g.S.Store.files c.args.store.now) name (λ text. MeantModel text None M)) c.as_bytes.ensures.value c.in-Ok.ensures.answer in
    IfOk-weaker c.check_for-told.result _ _
    (λ _ h. checks-both _ _ c.args.model.now c.args.cert.now _ _ _ M c.check_for-told.new.reply.items read c.read_model.ensures.kept c.read_model.ensures.later h)
    c.check_for-told.ensures.answer
