-- What contracts of private functions alone cite, beside specs/Searches.
use Rattle.std.specs.Prelude.{ℕ, if◌then◌else◌, List, codes, Result, Ok}
use Rattle.frac128.specs.Rational.{ℚ}
use Rattle.search_data.specs.Trees.{is_one_tree}
use Rattle.branch_tree.specs.declared.node.NodeData.{NodeData}
use Rattle.serde_json.specs.Data.{Data}
use Rattle.warm_file.specs.Faults.{Fault, fault, behind, at_key}
use Rattle.warm_file.specs.Values.{member}
use Rattle.warm_file.specs.declared.rising.Counts.{Counts}
use Rattle.warm_file.specs.Searches.{points_of, nodes_of, nodes_told}
use Rattle.warm_file.specs.private.Joined.{both_of}

-- the points, and the nodes of one whole tree
unfoldable pub one_tree_of : ℕ → Counts → Data → Result (List (List ℚ) × List NodeData) Fault
one_tree_of version n d =
    behind (member (codes "points") (points_of n.columns) d) (λ points. behind (member (codes "nodes") (nodes_of version n) d) (λ nodes.
    if is_one_tree nodes then both_of (Ok points) (nodes_told version nodes) else at_key (codes "nodes") (fault 12)))
