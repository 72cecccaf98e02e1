use Rattle.std.proofs.Common.{subst, length, Ok, Err, ℕ, pos}
use Rattle.frac128.specs.Rational.{int}
use Rattle.checked_sum.specs.Steps.{IsCheckedSum}
use Rattle.checked_sum.proofs.AnswerLaws.{wide_at}
use Rattle.lp_model.specs.Program.{coefficient, coordinate}
use Rattle.model_points.specs.Answers.{activity_step}
use Rattle.model_points.proofs.points.activity.Goals as goal

pub returns-in-Ok : goal.returns-in-Ok
returns-in-Ok c =
    let M = c.args.model.now in
    let r = c.args.row in
    subst (λ P. P) (λ i. IsCheckedSum {P = ℕ} (c.whole.ensures i) (λ j. coefficient M r j) (λ j. coordinate (c.as_slice.ensures i) j) (length M.cols) (λ k. k) (Ok c.in-Ok.activity)) c.in-Ok.ensures

pub returns-in-Err : goal.returns-in-Err
returns-in-Err c =
    let M = c.args.model.now in
    let r = c.args.row in
    let x = c.args.point.now in
    wide_at (int (pos 0)) (λ j. coefficient M r j) (λ j. coordinate x j) (length M.cols) (activity_step r) c.in-Err.index
    (subst (λ P. P) (λ i. IsCheckedSum {P = ℕ} (c.whole.ensures i) (λ j. coefficient M r j) (λ j. coordinate (c.as_slice.ensures i) j) (length M.cols) (λ k. k) (Err c.in-Err.index)) c.in-Err.ensures)
