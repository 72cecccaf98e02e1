use Rattle.std.proofs.Common.{inl, inr}
use Rattle.cert_check.proofs.CutSteps.{breaks-not, wide-not}
use Rattle.cert_check.proofs.checking.check_within.Goals as goal

pub returns-in-Passes : goal.returns-in-Passes
returns-in-Passes c = λ p r point. inl (c.in-Passes.ensures p point, c.judge_difference.ensures)

pub returns-in-Breaks : goal.returns-in-Breaks
returns-in-Breaks c = λ p r point. inr (c.in-Breaks.ensures p point, breaks-not c.in-Breaks.why)

pub returns-in-NoRoom : goal.returns-in-NoRoom
returns-in-NoRoom c = λ p r point. inr (c.in-NoRoom.ensures p point, wide-not c.in-NoRoom.step)
