use Rattle.std.proofs.Common.{inl}
use Rattle.cert_check.proofs.judging.judge_point.Goals as goal

pub returns-in-Passes : goal.returns-in-Passes
returns-in-Passes c = c.judge_value.ensures c.in-Passes.ensures

pub returns-in-Breaks : goal.returns-in-Breaks
returns-in-Breaks c = inl c.in-Breaks.ensures

pub returns-in-NoRoom : goal.returns-in-NoRoom
returns-in-NoRoom c = inl c.in-NoRoom.ensures
