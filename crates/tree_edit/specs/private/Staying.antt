-- Edits that leave the nodes of a search's tree, and what stands beside the tree then.
use Rattle.std.specs.Prelude.{◌≡◌, ◌≤◌, ℕ, List, [], Bool, true, false, length, map, All, Option, Some, None}
use Rattle.frac128.specs.Rational.{ℚ}
use Rattle.lp_model.specs.Limits.{point_limit, pool_limit}
use Rattle.lp_model.specs.Program.{Program, Point, least_value}
use Rattle.lp_model.specs.Formulations.{Formulation, formulation}
use Rattle.lp_model.specs.declared.types.CutRow.{CutRow}
use Rattle.lp_model.specs.declared.types.Edit.{Edit}
use Rattle.lp_model.specs.declared.types.Edit.TheVariants.{SetKind, DelCol, DelRow}
use Rattle.cover_cuts.specs.Cuts.{IsPoolOf}
use Rattle.branch_tree.specs.Plain.{Plain}
use Rattle.branch_tree.specs.Leaves.{region_leaves, with_states}
use Rattle.spared_leaves.specs.declared.touched.Touched.{Touched}
use Rattle.spared_leaves.specs.declared.touched.Touched.TheVariants.{Nothing, OneRow, RowSides, OneCost, OneColumn}
use Rattle.spared_leaves.specs.Touched.{touched_by}
use Rattle.leaf_judging.specs.declared.numbers.LeafNumbers.{LeafNumbers}
use Rattle.leaf_judging.specs.declared.queue.LeafQueue.{LeafQueue}
use Rattle.leaf_judging.specs.declared.judging.Judged.{Judged}
use Rattle.leaf_judging.specs.Judged.{AreJudged, AreStates}
use Rattle.leaf_judging.specs.Numbers.{AreNumbersOf}
use Rattle.leaf_judging.specs.Queued.{IsQueueOf}
use Rattle.leaf_judging.specs.Totals.{leaves_steps}
use Rattle.search_parts.specs.Points.{IsKeepable, target}
use Rattle.sound_searches.specs.Sound.{PlainSearch, IsSoundTree, formulation_of}
use Rattle.tree_edit.specs.declared.staying.Stayed.{Stayed}

-- each node stays, with its lists, and no cut goes
abbrev pub leaves_nodes : Edit → Bool
leaves_nodes (SetKind col integer) = integer
leaves_nodes (DelCol col) = false
leaves_nodes (DelRow row) = false
leaves_nodes e = true

-- no list that fits the model names what is touched: nothing is, or a row that the model does not have
abbrev pub TouchesNoList : Program → Option Touched → Type 0
TouchesNoList M None = ⊥
TouchesNoList M (Some Nothing) = Unit {0}
TouchesNoList M (Some (OneRow row)) = length M.rows ≤ row.0
TouchesNoList M (Some (RowSides row)) = ⊥
TouchesNoList M (Some (OneCost col)) = ⊥
TouchesNoList M (Some (OneColumn col)) = ⊥

-- each leaf is judged as it is marked, and what is kept of the leaves at F, and the queue of the open ones, stands at G
pub record KeepsIndex (F G : Formulation) (t : Option ℚ) (tree : Plain) : Type 0 where
  pub judged : AreJudged G t tree
  pub numbers : (numbers : LeafNumbers) → AreNumbersOf F tree numbers → AreNumbersOf G tree numbers
  pub queue : (queue : LeafQueue) → IsQueueOf F tree queue → IsQueueOf G tree queue

-- the leaves judged, or where none is given they stay as they are
abbrev pub AreJudgedOrKept : PlainSearch → Program → List CutRow → List Point → Option Judged → Type 0
AreJudgedOrKept S M pool points (Some j) =
    AreStates (formulation M pool) (target M points) S.tree.root j.states.items
    × (AreNumbersOf (formulation M pool) S.tree.root j.index.numbers × IsQueueOf (formulation M pool) (with_states j.states.items S.tree.root) j.index.queue)
AreJudgedOrKept S M pool points None = KeepsIndex (formulation_of S) (formulation M pool) (target M points) S.tree.root

-- how many terms such an edit of a search, which makes the other one of it, adds to the totals of leaves at most
abbrev pub stay_steps : PlainSearch → Edit → PlainSearch → ℕ
stay_steps S e new = leaves_steps (touched_by S.model e) S.cuts (formulation_of new) (region_leaves [] S.tree.root)

-- it added so many, and each cut counts before and after where it derives
pub record IsStayCounted (S : PlainSearch) (e : Edit) (new : PlainSearch) (taken : ℕ) : Type 0 where
  pub steps : taken ≤ stay_steps S e new
  pub pool : IsPoolOf S.model S.cuts
  pub pool_after : IsPoolOf new.model new.cuts

-- what is to stand beside the tree of S at the model M: its leaves are judged there with these cuts and points, or stay as they are
pub record IsStayed (S : PlainSearch) (M : Program) (s : Stayed) : Type 0 where
  pub pool : IsPoolOf M s.pool
  pub few_cuts : length s.pool ≤ pool_limit
  pub tree : IsSoundTree (formulation M s.pool) S.tree.root
  pub points : All (IsKeepable M) s.kept.points.items
  pub few : length s.kept.points.items ≤ point_limit
  pub values_are : s.kept.values.items ≡ map (least_value M 1) s.kept.points.items
  pub judged : AreJudgedOrKept S M s.pool s.kept.points.items s.judged
