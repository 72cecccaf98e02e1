use Rattle.node_differences.proofs.KeptLaws.{variables-rise, variables-from, differences-rise, differences-from, multipliers-rise, multipliers-from}
use Rattle.node_differences.proofs.laws.kept_law.Goals as goal

pub returns : goal.returns
returns c = record {
  variables = variables-rise;
  each_variable = variables-from;
  differences = differences-rise;
  each_difference = differences-from;
  multipliers = multipliers-rise;
  each_multiplier = multipliers-from;
}
