use Rattle.std.proofs.Common.{ℕ, subst, length, pos, Ok, Err}
use Rattle.frac128.specs.Rational.{int}
use Rattle.checked_sum.specs.Steps.{IsCheckedSum}
use Rattle.checked_sum.proofs.AnswerLaws.{wide_at}
use Rattle.cover_cuts.specs.Covers.{side_coefficient, contribution_number}
use Rattle.cover_cuts.specs.Answers.{cover_step}
use Rattle.cover_cuts.proofs.covers.least_sum.Goals as goal

pub returns-in-Err : goal.returns-in-Err
returns-in-Err c =
    let M = c.args.model.now in
    let d = c.args.derivation.now in
    let a = contribution_number M d in
    let x = side_coefficient M d.row.0 d.side in
    wide_at (int (pos 0)) a x (length M.cols) (cover_step d.row.0) c.in-Err.index
    (subst (λ P. P) (λ i. IsCheckedSum {P = ℕ} (c.whole.ensures i) a x (length M.cols) (λ k. k) (Err c.in-Err.index)) c.in-Err.ensures)

pub returns-in-Ok : goal.returns-in-Ok
returns-in-Ok c =
    let M = c.args.model.now in
    let d = c.args.derivation.now in
    let a = contribution_number M d in
    let x = side_coefficient M d.row.0 d.side in
    subst (λ P. P) (λ i. IsCheckedSum {P = ℕ} (c.whole.ensures i) a x (length M.cols) (λ k. k) (Ok c.in-Ok.sum)) c.in-Ok.ensures
