use Rattle.std.proofs.Common.{subst, length, Err, ℕ}
use Rattle.checked_sum.specs.Steps.{IsCheckedSum}
use Rattle.checked_sum.proofs.AnswerLaws.{wide_at}
use Rattle.leaf_dual.specs.Dual.{multiplier}
use Rattle.leaf_dual.specs.Answers.{row_number}
use Rattle.leaf_dual.specs.Parts.{constant_of}
use Rattle.leaf_dual.specs.private.Parts.{row_step}
use Rattle.leaf_dual.proofs.leaf.Leaf.rows_total.Goals as goal

pub returns-in-Err : goal.returns-in-Err
returns-in-Err c =
    let M = c.args.self.now.model.now in
    let y = multiplier c.args.self.now.mult.now in
    wide_at (constant_of c.args.self.now.costed M) y (row_number M y) (length M.rows) row_step c.in-Err.row
    (subst (λ P. P) (λ i. IsCheckedSum {P = ℕ} (c.constant.ensures i) y (row_number M y) (length M.rows) (λ k. k) (Err c.in-Err.row)) c.in-Err.ensures)
