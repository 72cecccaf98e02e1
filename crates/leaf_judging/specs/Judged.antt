-- All leaves of a tree judged.
use Rattle.std.specs.Prelude.{◌≡◌, ◌≤◌, List, [], length, Option}
use Rattle.frac128.specs.Rational.{ℚ}
use Rattle.lp_model.specs.Formulations.{Formulation}
use Rattle.branch_tree.specs.Tree.{EachLeaf}
use Rattle.branch_tree.specs.Plain.{Plain}
use Rattle.branch_tree.specs.Leaves.{leaf_count, with_states}
use Rattle.branch_tree.specs.Numbered.{NumberedTree}
use Rattle.branch_tree.specs.Changes.{with_leaf_states}
use Rattle.branch_tree.specs.declared.node.LeafState.{LeafState}
use Rattle.leaf_judging.specs.Closing.{IsJudgedLeaf}

abbrev pub AreJudged : Formulation → Option ℚ → Plain → Type 0
AreJudged F t tree = EachLeaf (λ path l. IsJudgedLeaf F t path l.kept) [] tree

-- there is a state for each leaf, and by these each is judged
pub record AreStates (F : Formulation) (t : Option ℚ) (tree : Plain) (states : List LeafState) : Type 0 where
  pub enough : leaf_count tree ≤ length states
  pub judged : AreJudged F t (with_states states tree)

-- the tree with other states of its leaves, by which each is judged
pub record JudgesAll (F : Formulation) (t : Option ℚ) (old new : NumberedTree) : Type 0 where
  pub states : List LeafState
  pub tree : new ≡ with_leaf_states old states
  pub judged : AreJudged F t new.root
