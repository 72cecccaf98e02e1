use Rattle.std.proofs.Common.{◌≡◌, ◌<◌, ℕ, get_or}
use Rattle.table_entries.specs.declared.stand.Stand.TheVariants.{Free}
use Rattle.basic_solution.specs.private.Slack.{IsRestood}
use Rattle.basic_solution.proofs.sided.SidedBasis.stand_nowhere.Given as goal

abbrev pub invariant-loop-place : goal.invariant-loop-place
invariant-loop-place l = record {
  same : IsRestood l.fn.self l.self;
  stands : (k : ℕ) → k < l.place → get_or l.self.stands k Free ≡ Free;
}
