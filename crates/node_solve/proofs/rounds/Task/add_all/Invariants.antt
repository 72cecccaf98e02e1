use Rattle.std.proofs.Common.{take}
use Rattle.node_solve.specs.Rounds.{AddsAll}
use Rattle.node_solve.specs.private.RoundCode.{task_work, round_of, IsKeptRound}
use Rattle.node_solve.proofs.rounds.Task.add_all.Given as goal

abbrev pub invariant-loop-cover : goal.invariant-loop-cover
invariant-loop-cover l = AddsAll (task_work l.self) (round_of l.fn.round) (take l.cover-index l.covers) (round_of l.round) × IsKeptRound (task_work l.self) l.round
