use Rattle.std.proofs.Common.{sym, subst, inl, inr}
use Rattle.cert_check.specs.Cuts.{AreCutsJudged}
use Rattle.cert_check.proofs.ClaimVerdicts.{found-judged}
use Rattle.cert_check.proofs.CutSteps.{breaks-not, wide-not}
use Rattle.cert_check.proofs.checking.check_head.Goals as goal

pub returns-in-Passes : goal.returns-in-Passes
returns-in-Passes c = λ p r named point ray found.
    let M = c.args.model.now in
    inl (c.in-Passes.ensures p r point ray, subst (AreCutsJudged M named) (sym c.cuts_judgement.ensures) (found-judged M named c.args.cuts.now found))

pub returns-in-Breaks : goal.returns-in-Breaks
returns-in-Breaks c = λ p r named point ray found. inr (c.in-Breaks.ensures p r point ray, breaks-not c.in-Breaks.why)

pub returns-in-NoRoom : goal.returns-in-NoRoom
returns-in-NoRoom c = λ p r named point ray found. inr (c.in-NoRoom.ensures p r point ray, wide-not c.in-NoRoom.step)
