-- A search whose tree stays: what it keeps at the other model.
use Rattle.std.specs.Prelude.{◌≡◌, ◌≤◌, true, List, [], length, map, Some, None}
use Rattle.std.proofs.Common.{refl, sym, ap, subst, arith}
use Rattle.std.proofs.lemmas.List.{length-map}
use Rattle.frac128.specs.Rational.{ℚ}
use Rattle.lp_model.specs.Limits.{pool_limit}
use Rattle.lp_model.specs.Program.{Program, least_value}
use Rattle.lp_model.specs.Edits.{edited, EditFits}
use Rattle.lp_model.specs.Formulations.{formulation}
use Rattle.lp_model.specs.declared.types.Edit.{Edit}
use Rattle.kept_cuts.specs.Kept.{IsPoolAfter}
use Rattle.branch_tree.specs.Numbered.{NumberedTree}
use Rattle.branch_tree.specs.Changes.{with_leaf_states}
use Rattle.leaf_judging.specs.declared.judging.Judged.{Judged}
use Rattle.leaf_judging.specs.declared.numbers.LeafNumbers.{LeafNumbers}
use Rattle.leaf_judging.specs.declared.queue.LeafQueue.{LeafQueue}
use Rattle.leaf_judging.proofs.NumberLemmas.{numbers-states}
use Rattle.search_parts.specs.EditedPoints.{point_after, AreKeepable}
use Rattle.search_parts.proofs.KeepableLemmas.{keepable-all, keepable-few}
use Rattle.sound_searches.specs.Sound.{PlainSearch, IsSoundTree, IsSound}
use Rattle.sound_searches.specs.Edited.{HasParts}
use Rattle.sound_searches.proofs.SoundLemmas.{tree-states}
use Rattle.tree_edit.specs.Indexed.{IsIndexed}
use Rattle.tree_edit.specs.declared.staying.Stayed.{Stayed}
use Rattle.tree_edit.specs.private.Staying.{leaves_nodes, AreJudgedOrKept, IsStayed}
use Rattle.tree_edit.proofs.FormerNumbers.{leaves-cuts, tree-left}
use Rattle.tree_edit.proofs.GoneCuts.{follow-sound}
use Rattle.tree_edit.proofs.PointTaken.{no_states}

-- ---- what stands beside the tree of a search after an edit that leaves the nodes

module _ (S : PlainSearch) (M : Program) (e : Edit) (s : Stayed) (fits : EditFits S.model e) (new : M ≡ edited S.model e) (leaves : leaves_nodes e ≡ true) (after : IsPoolAfter S.model e S.cuts M s.pool) (kept : AreKeepable M (map (point_after S.model e) S.points) s.kept.points.items) (sound : IsSound S) where
  sound-after : IsSoundTree (formulation M s.pool) S.tree.root
  sound-after =
      subst (λ P. P) (λ j. IsSoundTree (formulation (sym new j) s.pool) (tree-left S.model e (leaves-cuts S.model e leaves) S.cuts S.tree j).root)
      (follow-sound S.model e S.cuts s.pool S.tree fits after.derivations sound.tree)

  few-after : length s.kept.points.items ≤ 100
  few-after =
      let few = keepable-few M (map (point_after S.model e) S.points) s.kept.points.items kept in
      let long = length-map S.points (point_after S.model e) in
      let old : length S.points ≤ 100 = sound.few in
      omega (arith, few, long, old)

  pub is-stayed : length s.pool ≤ pool_limit → s.kept.values.items ≡ map (least_value M 1) s.kept.points.items → AreJudgedOrKept S M s.pool s.kept.points.items s.judged → IsStayed S M s
  is-stayed few values judged = record {
    pool = after.pool;
    few_cuts = few;
    tree = sound-after;
    points = keepable-all M (map (point_after S.model e) S.points) s.kept.points.items kept;
    few = few-after;
    values_are = values;
    judged = judged;
  }

-- ---- a search with it

module _ (S : PlainSearch) (M : Program) (s : Stayed) (h : IsStayed S M s) where
  abbrev stayed_at : NumberedTree → PlainSearch
  stayed_at T = record { model = M; cuts = s.pool; tree = T; points = s.kept.points.items }

  -- ---- the leaves judged

  module _ (j : Judged) (is : AreJudgedOrKept S M s.pool s.kept.points.items (Some j)) where
    abbrev new_tree : NumberedTree
    new_tree = with_leaf_states S.tree j.states.items

    pub judged-indexed : IsIndexed (stayed_at new_tree) s.kept.values.items j.index.numbers j.index.queue
    judged-indexed = record {
      sound = record {
        tree = tree-states (formulation M s.pool) j.states.items S.tree.root h.tree;
        judged = is.0.judged;
        points = h.points;
        few = h.few;
        pool = h.pool;
        few_cuts = h.few_cuts;
      };
      values_are = h.values_are;
      numbers_are = numbers-states (formulation M s.pool) j.index.numbers j.states.items S.tree.root is.1.0;
      queue_is = is.1.1;
    }

    pub judged-parts : HasParts M s.pool S.tree s.kept.points.items (stayed_at new_tree)
    judged-parts = record { model = refl; cuts_are = refl; points_are = refl; tree = record { states = j.states.items; tree = refl; judged = is.0.judged } }

  -- ---- the leaves as they are

  module _ (is : AreJudgedOrKept S M s.pool s.kept.points.items None) where
    pub kept-indexed : (values : List ℚ) (numbers : LeafNumbers) (queue : LeafQueue) → IsIndexed S values numbers queue → IsIndexed (stayed_at S.tree) s.kept.values.items numbers queue
    kept-indexed values numbers queue old = record {
      sound = record {
        tree = h.tree;
        judged = is.judged;
        points = h.points;
        few = h.few;
        pool = h.pool;
        few_cuts = h.few_cuts;
      };
      values_are = h.values_are;
      numbers_are = is.numbers numbers old.numbers_are;
      queue_is = is.queue queue old.queue_is;
    }

    pub kept-parts : HasParts M s.pool S.tree s.kept.points.items (stayed_at S.tree)
    kept-parts = record {
      model = refl;
      cuts_are = refl;
      points_are = refl;
      tree = record {
        states = [];
        tree = ap (λ r. let T : NumberedTree = record { root = r; last = S.tree.last; limit = S.tree.limit } in T) (sym (no_states S.tree.root));
        judged = is.judged;
      };
    }
