-- Splits on a column taken out of a tree.
use Rattle.std.specs.Prelude.{ℕ, if◌then◌else◌, nat_eq, int_le, pos}
use Rattle.branch_tree.specs.Tree.{Leaf, Split}
use Rattle.branch_tree.specs.Plain.{Plain}
use Rattle.branch_tree.specs.Numbered.{NumberedTree}

-- the tree without its splits on column j: of each the child stays that allows 0, which is the left one where 0 ≤ v
abbrev pub spliced : ℕ → Plain → Plain
spliced j (Leaf l) = Leaf l
spliced j (Split kept i v left right) =
    if nat_eq j i then (if int_le (pos 0) v then spliced j left else spliced j right)
    else Split kept i v (spliced j left) (spliced j right)

abbrev pub spliced_tree : ℕ → NumberedTree → NumberedTree
spliced_tree j T = record { root = spliced j T.root; last = T.last; limit = T.limit }
