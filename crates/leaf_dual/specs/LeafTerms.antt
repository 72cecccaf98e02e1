-- Which terms of a leaf's number are there.
use Rattle.std.specs.Prelude.{◌≢◌, ℕ, None}
use Rattle.leaf_dual.specs.declared.leaf.Leaf.{Leaf}
use Rattle.leaf_dual.specs.Dual.{row_side, cut_side, column_side}
use Rattle.leaf_dual.specs.Answers.{EntriesFit}
use Rattle.leaf_dual.specs.Parts.{leaf_formulation, costs, weights, cut_weights}

abbrev pub HasRowSide : Leaf → ℕ → Type 0
HasRowSide leaf i = row_side leaf.model.now (weights leaf) i ≢ None

abbrev pub HasCutSide : Leaf → ℕ → Type 0
HasCutSide leaf k = cut_side leaf.cuts.now (cut_weights leaf) k ≢ None

-- each step of the column's reduced cost has room, and its bound is there
abbrev pub HasColumnTerm : Leaf → ℕ → Type 0
HasColumnTerm leaf j =
    EntriesFit (leaf_formulation leaf) (weights leaf) (cut_weights leaf) (costs leaf) j × (column_side (leaf_formulation leaf) leaf.region.now (weights leaf) (cut_weights leaf) (costs leaf) j ≢ None)
