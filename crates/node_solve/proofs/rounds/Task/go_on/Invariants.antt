use Rattle.std.proofs.Common.{◌≤◌, ◌-◌}
use Rattle.node_solve.specs.Rounds.{MakesRounds}
use Rattle.node_solve.specs.private.RoundCode.{task_work, round_of, IsKeptRound}
use Rattle.node_solve.proofs.rounds.Task.go_on.Given as goal

abbrev pub invariant-turns : goal.invariant-turns
invariant-turns l = record {
  kept : IsKeptRound (task_work l.self) l.round;
  makes : MakesRounds (task_work l.self) l.made (round_of l.round);
  within : l.made ≤ l.self.rounds;
}

abbrev pub decreases-turns : goal.decreases-turns
decreases-turns l = l.self.rounds - l.made
