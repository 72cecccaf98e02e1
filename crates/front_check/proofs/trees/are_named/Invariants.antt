use Rattle.std.proofs.Common.{◌≡◌, take, map}
use Rattle.front_text.specs.declared.front.FrontTree.{FrontTree}
use Rattle.front_check.specs.Accepted.{tree_names}
use Rattle.front_check.proofs.trees.are_named.Given as goal

abbrev pub invariant-loop-index : goal.invariant-loop-index
invariant-loop-index l = take l.index (map (λ (t : FrontTree). t.of) l.trees) ≡ take l.index (tree_names l.outcomes.rest.items)
