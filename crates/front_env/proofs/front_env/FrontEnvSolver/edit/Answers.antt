use Rattle.std.proofs.Common.{◌≡◌, subst}
use Rattle.lp_model.specs.Program.{Program}
use Rattle.lp_model.specs.Edits.{EditFits}
use Rattle.model_edits.specs.Faults.{IsEditFault}
use Rattle.front_env.specs.FrontEnvs.{PlainFrontEnv, program_of}
use Rattle.front_env.proofs.Editing.{edited_to, refused_at}
use Rattle.front_env.proofs.front_env.FrontEnvSolver.edit.Goals as goal

pub returns-in-Ok-clause-fits : goal.returns-in-Ok-clause-fits
returns-in-Ok-clause-fits c =
    let anew = c.begin_anew.new.env in
    let fits = (edited_to anew.search c.args.edit anew c.edit.new.self c.in-Ok.field-0 c.begin_anew.ensures.loaded c.in-Ok.ensures.edits).fits in
    subst (λ (e : PlainFrontEnv). EditFits (program_of e) c.args.edit) c.self.view_is (subst (λ (P : Program). EditFits P c.args.edit) c.begin_anew.ensures.program fits)

pub returns-in-Err-Edit-clause-fault : goal.returns-in-Err-Edit-clause-fault
returns-in-Err-Edit-clause-fault c =
    let anew = c.begin_anew.new.env in
    let r = refused_at anew.search c.args.edit anew _ c.edit.new.self c.begin_anew.ensures.loaded c.in-Err-Edit.ensures.edits in
    let told = r.is in
    let named = c.in-Err-Edit.field-0-is in
    let same : r.bad ≡ c.in-Err-Edit.fault = cc in
    subst (λ (e : PlainFrontEnv). IsEditFault (program_of e) c.args.edit c.in-Err-Edit.fault) c.self.view_is
    (subst (λ (P : Program). IsEditFault P c.args.edit c.in-Err-Edit.fault) c.begin_anew.ensures.program (subst (IsEditFault _ c.args.edit) same r.cause))
