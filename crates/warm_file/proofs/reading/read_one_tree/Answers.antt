use Rattle.std.proofs.Common.{◌∙◌, codes, sym, refl, ap, Ok}
use Rattle.search_data.specs.Trees.{is_one_tree}
use Rattle.serde_json.specs.View.{view}
use Rattle.warm_file.specs.Faults.{fault}
use Rattle.warm_file.specs.Values.{member}
use Rattle.warm_file.proofs.Saying.{says-then, says-else}
use Rattle.warm_file.specs.Searches.{points_of, nodes_of, nodes_told}
use Rattle.warm_file.specs.private.Searches.{one_tree_of}
use Rattle.warm_file.proofs.JoinLemmas.{two-says, two-bad}
use Rattle.warm_file.proofs.reading.read_one_tree.Goals as goal

pub returns-then-is_one_tree : goal.returns-then-is_one_tree
unfolding one_tree_of
returns-then-is_one_tree c =
    let d = view c.args.value.now in
    let f = member (codes "points") (points_of c.args.counts.columns) d in
    let s = member (codes "nodes") (nodes_of c.args.version c.args.counts) d in
    let one = ap is_one_tree (sym c.as_slice.ensures) ∙ sym c.is_one_tree.ensures ∙ c.if-is_one_tree.true in
    let r = c.both-then-is_one_tree.result in
    two-says f s _ (c.in-Ok.points, c.in-Ok.nodes) r (c.in-Ok.ensures f s c.member-points.ensures c.member-nodes.ensures)
    (says-then _ _ _ r one (c.both-then-is_one_tree.ensures (Ok c.in-Ok.points) (nodes_told c.args.version c.in-Ok.nodes) refl c.nodes_told.ensures))

pub returns-else-is_one_tree : goal.returns-else-is_one_tree
unfolding one_tree_of
returns-else-is_one_tree c =
    let d = view c.args.value.now in
    let f = member (codes "points") (points_of c.args.counts.columns) d in
    let s = member (codes "nodes") (nodes_of c.args.version c.args.counts) d in
    let one = ap is_one_tree (sym c.as_slice.ensures) ∙ sym c.is_one_tree.ensures ∙ c.if-is_one_tree.false in
    two-says f s _ (c.in-Ok.points, c.in-Ok.nodes) c.at_key.result (c.in-Ok.ensures f s c.member-points.ensures c.member-nodes.ensures) (says-else _ _ _ c.at_key.result one (c.at_key.ensures (fault 12) c.bad.ensures))

pub returns-in-Err : goal.returns-in-Err
unfolding one_tree_of
returns-in-Err c =
    let d = view c.args.value.now in
    let f = member (codes "points") (points_of c.args.counts.columns) d in
    let s = member (codes "nodes") (nodes_of c.args.version c.args.counts) d in
    two-bad f s _ c.in-Err.fault (c.in-Err.ensures f s c.member-points.ensures c.member-nodes.ensures)
