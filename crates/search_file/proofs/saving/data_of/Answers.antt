use Rattle.std.proofs.Common.{◌≡◌}
use Rattle.branch_tree.specs.Preorder.{data_nodes, without_ids}
use Rattle.kept_cuts.specs.Kept.{derivations_of}
use Rattle.search_file.proofs.saving.data_of.Goals as goal

pub returns-in-Ok-points_and_nodes : goal.returns-in-Ok-points_and_nodes
returns-in-Ok-points_and_nodes c =
    let S = c.args.search.now in
    let model : c.in-Ok.model ≡ S.model = c.in-Ok.ensures.model in
    let cuts : c.in-Ok.cuts ≡ derivations_of S.cuts = c.in-Ok.ensures.cuts in
    let points : c.in-Ok-points_and_nodes.points ≡ S.points = c.in-Ok-points_and_nodes.ensures.points in
    let nodes : c.in-Ok-points_and_nodes.nodes ≡ data_nodes (without_ids S.tree.root) = c.in-Ok-points_and_nodes.ensures.nodes in
    λ i. record { model = model i; cuts = cuts i; points = points i; nodes = nodes i }
