use Rattle.std.proofs.Common.{subst, length, Ok, Err, ℕ}
use Rattle.checked_sum.specs.Steps.{IsCheckedSum}
use Rattle.checked_sum.proofs.AnswerLaws.{wide_at}
use Rattle.lp_model.specs.Program.{cost, coordinate}
use Rattle.model_points.specs.Answers.{value_step}
use Rattle.model_points.proofs.points.costs_from.Goals as goal

pub returns-in-Ok : goal.returns-in-Ok
returns-in-Ok c =
    let M = c.args.model.now in
    let w = c.args.which in
    subst (λ P. P) (λ i. IsCheckedSum {P = ℕ} c.args.start.now (λ j. cost M w j) (λ j. coordinate (c.as_slice.ensures i) j) (length M.cols) (λ k. k) (Ok c.in-Ok.sum)) c.in-Ok.ensures

pub returns-in-Err : goal.returns-in-Err
returns-in-Err c =
    let M = c.args.model.now in
    let w = c.args.which in
    let x = c.args.point.now in
    wide_at c.args.start.now (λ j. cost M w j) (λ j. coordinate x j) (length M.cols) value_step c.in-Err.index
    (subst (λ P. P) (λ i. IsCheckedSum {P = ℕ} c.args.start.now (λ j. cost M w j) (λ j. coordinate (c.as_slice.ensures i) j) (length M.cols) (λ k. k) (Err c.in-Err.index)) c.in-Err.ensures)
