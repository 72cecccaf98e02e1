use Rattle.std.proofs.Common.{◌≡◌}
use Rattle.std.specs.Prelude.{List, length}
use Rattle.frontier.specs.declared.outcomes.Outcome.{Outcome}
use Rattle.wcn_driver.specs.private.Kept.{Stays}
use Rattle.wcn_driver.specs.private.State.{outcomes_found, IsBetween}
use Rattle.wcn_driver.proofs.Turns.{turns_from}
use Rattle.wcn_driver.proofs.driving.sweep_gaps.Given as goal

abbrev pub invariant-loop-place : goal.invariant-loop-place
invariant-loop-place g l = record {
  stays : Stays l.task.base (g.S.Solver.program l.solver) (g.S.Solver.stops l.solver) (g.S.Solver.stops l.fn.solver);
  between : (before behind : List Outcome) × ((p : Outcome) × (IsBetween l.task l.sweep before p behind × (length before ≡ l.place)));
}

abbrev pub decreases-loop-place : goal.decreases-loop-place
decreases-loop-place g l = turns_from l.place (outcomes_found l.sweep.found.items)
