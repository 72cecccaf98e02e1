use Rattle.std.proofs.Common.{◌<◌, ℕ, get_or}
use Rattle.table_entries.specs.declared.stand.Stand.TheVariants.{Free}
use Rattle.row_tableau.specs.Variables.{numbers}
use Rattle.basic_solution.specs.Held.{relaxation, table}
use Rattle.basic_solution.specs.private.Slack.{IsRestood}
use Rattle.basic_solution.specs.ListedStates.{IsStandBy}
use Rattle.basic_solution.proofs.sided.SidedBasis.stand_by.Given as goal

abbrev pub invariant-loop-place : goal.invariant-loop-place
invariant-loop-place l = record {
  same : IsRestood l.fn.self l.self;
  stands : (k : ℕ) → k < l.place → IsStandBy (relaxation l.fn.self) (numbers l.fn.self.tableau l.high) ((table l.fn.self).nonbasic k) (get_or l.self.stands k Free);
}
