use Rattle.std.proofs.Common.{subst}
use Rattle.node_solve.specs.declared.working.Worked.TheVariants.{Done}
use Rattle.tree_search.specs.Steps.{work_next}
use Rattle.tree_search.specs.private.Stepping.{WorksBy}
use Rattle.tree_search.proofs.FoundLemmas.{never-keeps}
use Rattle.tree_search.proofs.StopLemmas.{other-placed, works-same, steps-same}
use Rattle.tree_search.proofs.stepping.place_beside_ray.Goals as goal

pub keep_point-requires-clause-works : goal.keep_point-requires-clause-works
keep_point-requires-clause-works c = works-same c.args.working.now c.args.job c.args.manager.now.search c.args.manager.now.search c.args.done _ c.in-PointAndClose.is c.requires.works

pub returns-in-PointAndClose-clause-steps : goal.returns-in-PointAndClose-clause-steps
returns-in-PointAndClose-clause-steps c = steps-same c.args.working.now c.args.job c.args.manager.now.search c.keep_point.new.manager.search c.args.done _ c.in-PointAndClose.is c.keep_point.result c.keep_point.ensures.steps

pub place_result-stepped-requires-clause-by : goal.place_result-stepped-requires-clause-by
place_result-stepped-requires-clause-by c =
    let working = c.args.working.now in
    let (begin, (found, (works, adds))) = c.requires.works in
    other-placed working.ways c.args.done c.in_default.not-PointAndClose
    (λ point basis e. never-keeps (work_next working.ways working.first.now working.pivots begin c.args.job) point basis found (subst (λ d. WorksBy working begin c.args.job (Done d found)) e works).worked_is)
