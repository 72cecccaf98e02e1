use Rattle.std.proofs.Common.{◌≡◌, take, length}
use Rattle.dual_bounds.specs.NewNumbers.{changed_all, with_cost, col_index}
use Rattle.dual_bounds.proofs.new_numbers.set_costs.Given as goal

abbrev pub invariant-loop-cost : goal.invariant-loop-cost
invariant-loop-cost l = record {
  long : length l.cols ≡ length l.initial.cols;
  made : l.cols ≡ changed_all col_index with_cost (take l.cost-index l.costs) l.initial.cols;
}
