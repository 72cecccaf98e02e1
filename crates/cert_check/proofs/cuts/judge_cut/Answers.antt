use Rattle.std.proofs.Common.{subst, Ok}
use Rattle.cover_cuts.specs.Answers.{IsValidAnswer}
use Rattle.cert_check.proofs.CutSteps.{stands-row, fails-wide}
use Rattle.cert_check.proofs.cuts.judge_cut.Goals as goal

pub returns-in-Err : goal.returns-in-Err
returns-in-Err c = λ cut names is. fails-wide c.args.model.now cut c.args.derivation.now names is c.in-Err.step c.in-Err.ensures

pub returns-in-Ok : goal.returns-in-Ok
returns-in-Ok c =
    let valid = subst (λ b. IsValidAnswer c.args.model.now c.args.derivation.now (Ok b)) c.in-Ok-true.field-0-test c.in-Ok-true.ensures in
    λ cut names is. stands-row c.args.model.now cut c.args.derivation.now names is c.in-Ok.row valid c.in-Ok.ensures.from c.in-Ok.ensures.cut
