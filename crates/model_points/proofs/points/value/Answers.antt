use Rattle.std.proofs.Common.{subst, length}
use Rattle.checked_sum.specs.Steps.{IsCheckedSum}
use Rattle.lp_model.specs.Program.{cost, coordinate}
use Rattle.model_points.specs.Answers.{value_step}
use Rattle.model_points.proofs.points.value.Goals as goal

pub returns : goal.returns
returns c =
    let M = c.args.model.now in
    let w = c.args.which in
    let x = c.args.point.now in
    subst (λ t. IsCheckedSum t (λ j. cost M w j) (λ j. coordinate x j) (length M.cols) value_step c.costs_from.result) c.constant.ensures c.costs_from.ensures
