use Rattle.std.proofs.Common.{◌≡◌}
use Rattle.slab.specs.Slab.{slab_len}
use Rattle.branch_tree.specs.private.Relisted.{node_left_by}
use Rattle.branch_tree.specs.Table.{node_at, IsNodeTable, AreLive}
use Rattle.branch_tree.proofs.RelistLemmas.{AreRelisted}
use Rattle.branch_tree.proofs.table.NodeTable.relist.Given as goal

abbrev pub invariant-loop-place : goal.invariant-loop-place
invariant-loop-place l = record {
  relisted : AreRelisted (node_left_by l.gone) (node_at l.fn.self) (node_at l.self) l.fn.self.keys.items l.place;
  table : IsNodeTable l.self;
  live : AreLive l.self.nodes l.self.keys.items;
  len : slab_len l.self.nodes ≡ slab_len l.fn.self.nodes;
  keys : l.self.keys ≡ l.fn.self.keys;
}
