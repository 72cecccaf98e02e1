use Rattle.std.proofs.Common.{◌≡◌, ◌∙◌, IfOk, ap, sym, subst}
use Rattle.branch_tree.specs.declared.node.LeafData.{LeafData}
use Rattle.branch_tree.specs.declared.node.NodeResult.TheVariants.{PointAndClose}
use Rattle.sound_searches.specs.declared.taken.Taken.{Taken}
use Rattle.sound_searches.specs.Placing.{TakesPointClose, closed_data}
use Rattle.sound_searches.proofs.PlaceLemmas.{takes_ok, some_same}
use Rattle.tree_edit.proofs.search.Search.place_point.Goals as goal

pub closed_at-requires : goal.closed_at-requires
closed_at-requires c = c.requires.open.leaf.has

pub place_point_close-requires-clause-leaf : goal.place_point_close-requires-clause-leaf
place_point_close-requires-clause-leaf c = c.requires.open.leaf

pub place_point_close-requires-clause-narrow : goal.place_point_close-requires-clause-narrow
place_point_close-requires-clause-narrow c = c.requires.open.narrow

pub place_point_close-requires-clause-closed : goal.place_point_close-requires-clause-closed
place_point_close-requires-clause-closed c = ap (λ (d : LeafData). d.state) c.in-Ok.ensures.1.1

pub returns-in-Ok-clause-taken : goal.returns-in-Ok-clause-taken
returns-in-Ok-clause-taken c =
    let o = c.requires.open.is_open in
    let found = c.in-Ok.ensures in
    let same : found.0 ≡ o.kept = some_same found.0 o.kept (sym found.1.0 ∙ o.leaf.data_is) in
    takes_ok c.args.self.now c.args.id c.args.region.now o.kept (PointAndClose c.args.point c.args.mult c.args.basis) c.place_point_close.new.self o.leaf o.state c.place_point_close.result
    (subst (λ (d : LeafData). IfOk c.place_point_close.result (λ (t : Taken). TakesPointClose c.args.self.now c.args.id c.args.region.now c.args.point d c.place_point_close.new.self t))
    (found.1.1 ∙ ap (λ (d : LeafData). closed_data c.args.mult d.farkas c.args.basis) same) c.place_point_close.ensures.taken)

pub returns-in-Ok-clause-kept : goal.returns-in-Ok-clause-kept
returns-in-Ok-clause-kept c = c.place_point_close.ensures.kept
