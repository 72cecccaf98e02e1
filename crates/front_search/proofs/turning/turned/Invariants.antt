use Rattle.std.proofs.Common.{◌≡◌, take}
use Rattle.std.specs.Prelude.{map, reverse}
use Rattle.frontier.specs.Outcomes.{opposite}
use Rattle.front_search.proofs.turning.turned.Given as goal

abbrev pub invariant-loop-outcome : goal.invariant-loop-outcome
invariant-loop-outcome l = l.own ≡ reverse (map opposite (take l.outcome-index l.outcomes))
