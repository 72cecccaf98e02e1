use Rattle.std.proofs.Common.{subst}
use Rattle.std.proofs.lemmas.Result.{IfOk-weaker}
use Rattle.front_check.specs.Verdict.{IsFrontVerdict}
use Rattle.front_check.specs.private.Found.{AreOutcomesFound}
use Rattle.front_check.specs.private.Parts.{IsTreesOutcome}
use Rattle.front_check.proofs.FrontSteps.{front_verdict}
use Rattle.front_check.proofs.checking.check_beside.Goals as goal

pub returns-in-Stand : goal.returns-in-Stand
returns-in-Stand c =
    let M = c.args.model.now in
    let cert = c.args.cert.now in
    let b = c.in-Stand.found in
    let stood = subst (AreOutcomesFound M cert.outcomes) c.in-Stand.is (subst (λ l. AreOutcomesFound M l c.in-Ok.found) c.as_slice.ensures c.in-Ok.ensures) in
    IfOk-weaker c.judge_trees-verdict.result _ (IsFrontVerdict M cert)
    (λ v h. front_verdict M cert c.requires.whole stood.0 b stood.1 v (subst (λ N. IsTreesOutcome N b cert.trees v) c.requires.bare (subst (λ trees. IsTreesOutcome c.args.bare.now b trees v) c.as_slice-in-Stand.ensures h)))
    c.judge_trees-verdict.ensures
