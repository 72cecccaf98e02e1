use Rattle.std.proofs.Common.{sym, subst}
use Rattle.cert_check.specs.Cuts.{AreCutsJudged}
use Rattle.cert_check.proofs.ClaimVerdicts.{found-judged}
use Rattle.front_check.proofs.checking.judge_tree_cuts.Goals as goal

pub returns-in-Ok : goal.returns-in-Ok
returns-in-Ok c =
    let M = c.args.model.now in
    let cuts = c.args.cuts.now in
    subst (AreCutsJudged M cuts) (sym c.cuts_judgement.ensures) (found-judged M cuts c.in-Ok.found c.in-Ok.ensures)
