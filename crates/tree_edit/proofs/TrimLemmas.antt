-- A search with another tree, and the tree after a trim: it fits the model as the tree before does.
use Rattle.std.specs.Prelude.{ℕ, ◌+◌, ◌-◌, List}
use Rattle.std.proofs.Common.{sym, subst, arith}
use Rattle.std.proofs.lemmas.List.Elements.{All-nil}
use Rattle.frac128.specs.Rational.{ℚ}
use Rattle.lp_model.specs.Formulations.{Formulation}
use Rattle.branch_tree.specs.Tree.{Leaf, Split, HasNarrowSplits}
use Rattle.branch_tree.specs.Plain.{Plain, trimmed, splits_at}
use Rattle.branch_tree.specs.Numbered.{NumberedTree}
use Rattle.branch_tree.specs.Changes.{after_trim}
use Rattle.branch_tree.proofs.CountLemmas.{depth_case}
use Rattle.branch_tree.proofs.IdLemmas.{each_split-trimmed}
use Rattle.leaf_judging.specs.declared.numbers.LeafNumbers.{LeafNumbers}
use Rattle.leaf_judging.specs.declared.queue.LeafQueue.{LeafQueue}
use Rattle.leaf_judging.specs.Judged.{JudgesAll}
use Rattle.leaf_judging.specs.Numbers.{AreNumbersOf}
use Rattle.leaf_judging.specs.Queued.{IsQueueOf}
use Rattle.search_parts.specs.Points.{target}
use Rattle.search_parts.specs.Lists.{IsActivityThere, HasNodeLists}
use Rattle.sound_searches.specs.Sound.{PlainSearch, IsSoundTree, formulation_of}
use Rattle.tree_edit.specs.Indexed.{IsIndexed}
use Rattle.sound_searches.proofs.SoundLemmas.{tree-states}

module _ (F : Formulation) where
  lists-trimmed : (depth last : ℕ) (t : Plain) → HasNodeLists F t → HasNodeLists F (trimmed depth last t)
  lists-trimmed depth last (Leaf l) h = h
  lists-trimmed depth last (Split kept j v left right) h =
      depth_case (λ r n. HasNodeLists F r) depth last kept j v left right
      (record { mult = h.0.mult; farkas = record { each = All-nil (IsActivityThere F); once = λ i m d below within. absurd (omega arith) }; basis = h.0.basis })
      (h.0, (lists-trimmed (depth - 1) last left h.1.0, lists-trimmed (depth - 1) (last + splits_at (depth - 1) left) right h.1.1))

  pub sound-trimmed : (T : NumberedTree) (depth : ℕ) → IsSoundTree F T.root → IsSoundTree F (after_trim T depth).root
  sound-trimmed T depth h = record {
    lawful = each_split-trimmed _ depth T.last T.root h.lawful;
    narrow = each_split-trimmed _ depth T.last T.root h.narrow;
    lists = lists-trimmed depth T.last T.root h.lists;
  }

pub narrow-trimmed : (T : NumberedTree) (depth : ℕ) → HasNarrowSplits T.root → HasNarrowSplits (after_trim T depth).root
narrow-trimmed T depth h = each_split-trimmed _ depth T.last T.root h

-- the search with another tree, each leaf of which is judged
pub kept-tree : (S : PlainSearch) (values : List ℚ) (numbers more : LeafNumbers) (queue new : LeafQueue) (T U : NumberedTree) → IsIndexed S values numbers queue → IsSoundTree (formulation_of S) T.root
    → JudgesAll (formulation_of S) (target S.model S.points) T U → AreNumbersOf (formulation_of S) U.root more → IsQueueOf (formulation_of S) U.root new
    → IsIndexed (record { model = S.model; cuts = S.cuts; tree = U; points = S.points }) values more new
kept-tree S values numbers more queue new T U h sound judges numbered queued = record {
  sound = record {
    tree = subst (λ (N : NumberedTree). IsSoundTree (formulation_of S) N.root) (sym judges.tree) (tree-states (formulation_of S) judges.states T.root sound);
    judged = judges.judged;
    points = h.sound.points;
    few = h.sound.few;
    pool = h.sound.pool;
    few_cuts = h.sound.few_cuts;
  };
  values_are = h.values_are;
  numbers_are = numbered;
  queue_is = queued;
}
