use Rattle.std.proofs.Common.{◌≡◌, take, length}
use Rattle.dual_bounds.specs.NewNumbers.{changed_all, with_side, row_index}
use Rattle.dual_bounds.proofs.new_numbers.set_sides.Given as goal

abbrev pub invariant-loop-side : goal.invariant-loop-side
invariant-loop-side l = record {
  long : length l.rows ≡ length l.initial.rows;
  made : l.rows ≡ changed_all row_index with_side (take l.side-index l.sides) l.initial.rows;
}
