-- A search as data, and what is made of it again.
--     saved_data S            the model of a search, its cuts by their derivations, its points, and its nodes in preorder
--     IsRestorable s          what has to hold of data that a search is made of; whether its cuts derive, its points are feasible, its
--                             splits are lawful and its leaves close is not asked
--     Restores s S            the search has the stated model, the stated cuts, those of the stated points that may be kept, and the
--                             stated tree, but for splits that are not on an integer column. Its ids are 1, 2 and so on in preorder.
--                             Its type says that each cut counts exactly where it derives, and the states of its leaves are judged
use Rattle.std.specs.Prelude.{◌≡◌, ◌≤◌, [], length, map, All, ℤ, pos, ◌<ℤ◌, false}
use Rattle.frac128.specs.Rational.{int}
use Rattle.frac128.specs.Range.{IsNarrow, largest}
use Rattle.lp_model.specs.Formulations.{Formulation, formulation}
use Rattle.lp_model.specs.declared.types.Basis.{Basis}
use Rattle.lp_model.specs.declared.types.CutRow.{CutRow}
use Rattle.lp_model.specs.declared.types.Derivation.{Derivation}
use Rattle.leaf_dual.specs.Dual.{Multipliers}
use Rattle.lp_model.specs.Limits.{node_limit, pool_limit, point_limit}
use Rattle.branch_tree.specs.Preorder.{DataTree, data_nodes, without_ids, numbered_tree, IsOneTree}
use Rattle.branch_tree.specs.declared.node.NodeData.{NodeData}
use Rattle.branch_tree.specs.declared.node.NodeData.TheVariants.{Split, Leaf}
use Rattle.kept_cuts.specs.Kept.{derivations_of}
use Rattle.leaf_judging.specs.Judged.{JudgesAll}
use Rattle.search_data.specs.declared.data.SearchData.{SearchData}
use Rattle.search_parts.specs.Points.{target}
use Rattle.search_parts.specs.Lists.{AreMultipliers, IsBasis, HasLists}
use Rattle.sound_searches.specs.Sound.{PlainSearch, formulation_of}
use Rattle.search_parts.specs.EditedPoints.{AreKeepable}
use Rattle.search_file.specs.Lawful.{lawful_tree}

abbrev pub saved_data : PlainSearch → SearchData
saved_data S = record { model = S.model; cuts = derivations_of S.cuts; points = S.points; nodes = data_nodes (without_ids S.tree.root) }

-- ---- what has to hold of data

-- a cut of the derivation that does not count
abbrev pub uncounted : Derivation → CutRow
uncounted d = record { from = d; terms = []; hi = int (pos 0); live = false }

-- the stated model with as many cuts as are stated
abbrev pub stated_formulation : SearchData → Formulation
stated_formulation s = formulation s.model (map uncounted s.cuts)

-- the number of a split and the one above it are those of numerators
pub record IsRestorableSplit (F : Formulation) (v : ℤ) (mult : Multipliers) (basis : Basis) : Type 0 where
  pub narrow : IsNarrow v
  pub below : v <ℤ pos largest
  pub mult_is : AreMultipliers F mult
  pub basis_is : IsBasis F basis

-- each list names what is there, once
abbrev pub IsRestorableNode : Formulation → NodeData → Type 0
IsRestorableNode F (Split col v mult basis) = IsRestorableSplit F v mult basis
IsRestorableNode F (Leaf kept) = HasLists F kept

pub record IsRestorable (s : SearchData) : Type 0 where
  pub few_cuts : length s.cuts ≤ pool_limit
  pub few_points : length s.points ≤ point_limit
  pub tree : IsOneTree s.nodes
  pub nodes : All (IsRestorableNode (stated_formulation s)) s.nodes

-- ---- what is made of it

-- whatever tree the stated nodes are of (they are of one alone)
pub record Restores (s : SearchData) (S : PlainSearch) : Type 0 where
  pub model : S.model ≡ s.model
  pub cuts : derivations_of S.cuts ≡ s.cuts
  pub points : AreKeepable s.model s.points S.points
  pub tree : (t : DataTree) → data_nodes t ≡ s.nodes → JudgesAll (formulation_of S) (target S.model S.points) (numbered_tree node_limit (lawful_tree s.model t)) S.tree
