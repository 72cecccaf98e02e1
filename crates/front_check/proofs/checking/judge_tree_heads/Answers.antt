use Rattle.std.proofs.Common.{inl, inr}
use Rattle.std.proofs.lemmas.Result.{IfOk-weaker}
use Rattle.front_check.proofs.checking.judge_tree_heads.Goals as goal

pub judge_all_cuts-requires-clause-named : goal.judge_all_cuts-requires-clause-named
judge_all_cuts-requires-clause-named c = c.in-Passes.ensures.names

pub returns-in-Passes : goal.returns-in-Passes
returns-in-Passes c = IfOk-weaker c.judge_all_cuts.result _ _ (λ j h. inl (c.in-Passes.ensures, h)) c.judge_all_cuts.ensures

pub returns-in-Breaks : goal.returns-in-Breaks
returns-in-Breaks c = inr (c.in-Breaks.ensures, (λ e. cc))

pub returns-in-NoRoom : goal.returns-in-NoRoom
returns-in-NoRoom c = inr (c.in-NoRoom.ensures, (λ e. cc))
