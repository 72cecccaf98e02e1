-- What is written of a search is read back.
use Rattle.std.specs.Prelude.{◌≡◌, suc, true, List, [], ◌∷◌, length, codes, All, Ok}
use Rattle.std.proofs.Common.{refl, sym, ap, subst, ◌∙◌, arith}
use Rattle.frac128.specs.Rational.{ℚ}
use Rattle.frac128.specs.Range.{Fits}
use Rattle.search_data.specs.declared.data.SearchData.{SearchData}
use Rattle.search_data.specs.Trees.{is_one_tree}
use Rattle.search_data.proofs.TreeLaws.{one_tree-decides}
use Rattle.lp_model.specs.Limits.{node_limit}
use Rattle.lp_model.proofs.ModelLaws.{few_rows, few_columns}
use Rattle.branch_tree.specs.Preorder.{SplitData}
use Rattle.branch_tree.specs.declared.node.NodeData.{NodeData}
use Rattle.serde_json.specs.Data.{array}
use Rattle.node_differences.specs.Told.{node_lists, due_behind, told_nodes, rebuilt, is_told_node}
use Rattle.node_differences.proofs.TreeLaws.{whole-same, nodes-again}
use Rattle.warm_file.specs.Faults.{or_fault, behind}
use Rattle.warm_file.specs.Values.{at_most_items, list_of}
use Rattle.warm_file.specs.Models.{model_of}
use Rattle.warm_file.specs.Searches.{version_of, cut_of, point_of, node_of, cuts_of, points_of, is_told, nodes_of, stated_nodes, nodes_told, with_nodes, counts, tree_of, search_of}
use Rattle.warm_file.proofs.Saying.{ok-next, ok-then}
use Rattle.warm_writer.specs.Written.{place_json, list_json, model_json, cut_json, point_json, tree_json, search_json}
use Rattle.warm_writer.specs.Writable.{IsWritableCut, IsWritable, SearchFits}
use Rattle.warm_writer.proofs.CutBack.{cut-back}
use Rattle.warm_writer.proofs.PointBack.{point-back}
use Rattle.warm_writer.proofs.ModelBack.{model-back}
use Rattle.warm_writer.proofs.RankOrder.{AreFew}
use Rattle.warm_writer.proofs.TreeTold.{all-written}
use Rattle.warm_writer.proofs.TreeBack.{can-be-told, tree-back}
use Rattle.warm_writer.proofs.Splits.{long, all-here, member-back, few-back, list-splits}

version-back : version_of (place_json 2) ≡ Ok 2
unfolding version_of behind or_fault
version-back = refl

few-counts : (s : SearchData) → IsWritable s → AreFew (counts s.model s.cuts)
few-counts s w =
    let cuts = w.few_cuts in
    let rows = few_rows s.model w.model.lawful in
    let cols = few_columns s.model w.model.lawful in
    record { columns = omega (arith, cols); rows = omega (arith, rows); cuts = omega (arith, cuts) }

told-length : (above : List SplitData) (ds : List NodeData) → length (told_nodes above ds) ≡ length ds
told-length above [] = refl
told-length [] (d ∷ ds) = ap suc (told-length (due_behind (node_lists d) [] d) ds)
told-length (a ∷ above) (d ∷ ds) = ap suc (told-length (due_behind (node_lists d) above d) ds)

pub search-back : (s : SearchData) → IsWritable s → SearchFits s → search_of (search_json s) ≡ Ok s
unfolding search_of search_json tree_of cuts_of points_of nodes_of nodes_told
search-back s w f =
    let rows = length s.model.rows in
    let columns = length s.model.cols in
    let n = counts s.model s.cuts in
    let few_cuts = w.few_cuts in
    let few_points = w.few_points in
    let few_nodes = w.few_nodes in
    let cuts =
    list-splits (at_most_items 10000 (λ before. cut_of rows columns)) cut_json s.cuts
    (λ before after d e. let below = long s.cuts before after d e in
    few-back 10000 (λ b. cut_of rows columns) before (cut_json d) d (omega arith) (cut-back rows columns d (all-here s.cuts before after d e (IsWritableCut rows columns) w.cuts))) in
    let points =
    list-splits (at_most_items 100 (λ before. point_of columns)) point_json s.points
    (λ before after x e. let below = long s.points before after x e in
    let shape = all-here s.points before after x e (λ (y : List ℚ). length y ≡ columns) w.points in
    few-back 100 (λ b. point_of columns) before (point_json x) x (omega arith)
    (ap (λ m. point_of m (point_json x)) (sym shape) ∙ point-back x (all-here s.points before after x e (λ (y : List ℚ). All Fits y) f.points))) in
    let few = few-counts s w in
    let raws = told_nodes [] s.nodes in
    let told : All (λ (d : NodeData). is_told_node d ≡ true) s.nodes = λ k d lt. can-be-told n few _ (w.nodes k d lt) (f.nodes k d lt) in
    let read = tree-back n few s.nodes w.nodes f.nodes (let same = told-length [] s.nodes in omega (arith, same, few_nodes)) in
    let nodes = subst (λ items. list_of (at_most_items node_limit (λ before. node_of (is_told 2 before) n)) (array items) ≡ Ok raws) (sym (all-written [] s.nodes told)) read in
    let whole : is_one_tree raws ≡ true = whole-same s.nodes ∙ (one_tree-decides s.nodes).1 w.tree in
    let again : stated_nodes (rebuilt 0 [] raws) ≡ Ok s.nodes = ap stated_nodes (nodes-again s.nodes told) in
    ok-next _ _ 2 s (member-back (codes "warm") version_of (search_json s) (place_json 2) 2 refl version-back)
    (ok-next _ _ s.model s (member-back (codes "model") model_of (search_json s) (model_json s.model) s.model refl (model-back s.model w.model f.model))
    (ok-next _ _ s.cuts s (member-back (codes "cuts") (cuts_of rows columns) (search_json s) (list_json cut_json s.cuts) s.cuts refl cuts)
    (ok-next _ _ s.points s (member-back (codes "points") (points_of columns) (search_json s) (list_json point_json s.points) s.points refl points)
    (ok-next _ _ raws s (member-back (codes "nodes") (nodes_of 2 n) (search_json s) (tree_json s.nodes) raws refl nodes)
    (ok-then _ _ _ s whole (ok-next (stated_nodes (rebuilt 0 [] raws)) (with_nodes s.model s.cuts s.points) s.nodes s again refl))))))
