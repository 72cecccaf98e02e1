-- Searches whose lists stand in order, as a warm file states them.
--     HasListsInOrder t      each list of each node does
--     IsInOrder S            so do those of its tree; its cuts name what is there, by literals that rise; and its tree
--                            has, and may have, 1,000,000 nodes at most
use Rattle.std.specs.Prelude.{ℕ, ◌<◌, ◌≤◌, List, length, AllPairs, All}
use Rattle.lp_model.specs.Program.{Program}
use Rattle.lp_model.specs.declared.types.Derivation.{Derivation}
use Rattle.branch_tree.specs.Tree.{Leaf, Split, node_count}
use Rattle.lp_model.specs.Limits.{node_limit}
use Rattle.branch_tree.specs.Plain.{SplitKept, Plain}
use Rattle.branch_tree.specs.declared.node.LeafData.{LeafData}
use Rattle.kept_cuts.specs.Kept.{derivations_of}
use Rattle.sound_searches.specs.Sound.{PlainSearch}
use Rattle.list_order.specs.Order.{AreInOrder, IsBasisInOrder}

pub record IsLeafInOrder (kept : LeafData) : Type 0 where
  pub mult : AreInOrder kept.mult
  pub farkas : AreInOrder kept.farkas
  pub basis : IsBasisInOrder kept.basis

pub record IsSplitInOrder (kept : SplitKept) : Type 0 where
  pub mult : AreInOrder kept.mult
  pub basis : IsBasisInOrder kept.basis

abbrev pub HasListsInOrder : Plain → Type 0
HasListsInOrder (Leaf l) = IsLeafInOrder l.kept
HasListsInOrder (Split kept j v left right) = IsSplitInOrder kept × (HasListsInOrder left × HasListsInOrder right)

-- its row and its columns are there, and each column is below those behind it
pub record IsCutInOrder (rows columns : ℕ) (d : Derivation) : Type 0 where
  pub row : d.row.0 < rows
  pub there : All (λ l. l.col.0 < columns) d.literals
  pub rising : AllPairs (λ a b. a.col.0 < b.col.0) d.literals

abbrev pub AreCutsInOrder : Program → List Derivation → Type 0
AreCutsInOrder M ds = All (IsCutInOrder (length M.rows) (length M.cols)) ds

pub record IsInOrder (S : PlainSearch) : Type 0 where
  pub lists : HasListsInOrder S.tree.root
  pub cuts : AreCutsInOrder S.model (derivations_of S.cuts)
  pub nodes : node_count S.tree.root ≤ node_limit
  pub limit : S.tree.limit ≤ node_limit
