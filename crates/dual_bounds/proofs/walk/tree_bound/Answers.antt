use Rattle.std.proofs.lemmas.Result.{IfOk-weaker}
use Rattle.sound_searches.specs.Sound.{IsSound}
use Rattle.dual_bounds.specs.declared.answers.LowerBound.{LowerBound}
use Rattle.dual_bounds.specs.TreeBounds.{IsTreeBoundAt}
use Rattle.dual_bounds.proofs.walk.tree_bound.Goals as goal

pub returns-clause-bound : goal.returns-clause-bound
returns-clause-bound c =
    let S = c.args.search.now in
    IfOk-weaker c.bound_with_cuts-bound.result _ (IsTreeBoundAt c.args.model.now S.cuts S.tree.root) (λ bound is. record { again = c.in_ok-again.again; derived = c.in_ok-again.ensures.derived; is = is }) c.bound_with_cuts-bound.ensures

pub returns-clause-sound : goal.returns-clause-sound
returns-clause-sound c = IfOk-weaker c.bound_with_cuts-bound.result _ (λ (bound : LowerBound). IsSound c.args.search.now) (λ bound is. c.in_ok-again.ensures.sound) c.bound_with_cuts-bound.ensures
