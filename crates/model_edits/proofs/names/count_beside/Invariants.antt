use Rattle.std.proofs.Common.{◌≡◌, ◌≤◌, map, take, length}
use Rattle.lp_model.specs.Edits.{entries_beside}
use Rattle.model_edits.proofs.names.count_beside.Given as goal

abbrev pub invariant-loop-item : goal.invariant-loop-item
invariant-loop-item g l = record {
  is : l.count ≡ length (entries_beside 0 (take l.item-index (map g.T.HasName.name l.items)) l.named);
  few : l.count ≤ l.item-index;
}
