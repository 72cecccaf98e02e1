use Rattle.std.proofs.Common.{subst, Ok, Err}
use Rattle.model_points.specs.Answers.{IsValueAnswer}
use Rattle.front_check.proofs.ValueSteps.{found_value, wide_value}
use Rattle.front_check.proofs.values.judge_stated.Goals as goal

pub returns-in-Err : goal.returns-in-Err
returns-in-Err c =
    let x = c.args.point.now in
    wide_value c.args.model.now c.args.which x c.args.stated.now c.in-Err.step (subst (λ N. IsValueAnswer N c.args.which x (Err c.in-Err.step)) c.requires.bare c.in-Err.ensures)

pub returns-in-Ok : goal.returns-in-Ok
returns-in-Ok c =
    let x = c.args.point.now in
    found_value c.args.model.now c.args.which x c.args.stated.now c.in-Ok.less c.judge_total.result
    (subst (λ N. IsValueAnswer N c.args.which x (Ok c.in-Ok.less)) c.requires.bare c.in-Ok.ensures) c.judge_total.ensures
