use Rattle.node_differences.proofs.VariableLaws.{variables-undone}
use Rattle.node_differences.proofs.MultiplierLaws.{multipliers-undone}
use Rattle.node_differences.proofs.laws.difference_law.Goals as goal

pub returns : goal.returns
returns c = record { variables = variables-undone; multipliers = multipliers-undone }
