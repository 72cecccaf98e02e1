use Rattle.std.specs.Int.{w128}
use Rattle.std.proofs.lemmas.Int.{to_z-of_z}
use Rattle.std.proofs.Common.{rules, ℤ, FitsSigned, to_z, of_z, ◌≡◌, subst}
use Rattle.std.specs.Prelude.{IfOk}
use Rattle.branch_tree.specs.declared.node.LeafData.{LeafData}
use Rattle.branch_tree.specs.declared.node.NodeResult.TheVariants.{Close, Split}
use Rattle.sound_searches.specs.declared.taken.Taken.{Taken}
use Rattle.sound_searches.specs.Placing.{TakesClose, TakesSplit}
use Rattle.sound_searches.proofs.PlaceLemmas.{takes_ok}
use Rattle.tree_edit.proofs.search.Search.place_open.Goals as goal

pub place_close-requires-clause-leaf : goal.place_close-requires-clause-leaf
place_close-requires-clause-leaf c = c.requires.open.leaf

pub place_close-requires-clause-narrow : goal.place_close-requires-clause-narrow
place_close-requires-clause-narrow c = c.requires.open.narrow

pub place_split-requires-clause-leaf : goal.place_split-requires-clause-leaf
place_split-requires-clause-leaf c = c.requires.open.leaf

pub place_split-requires-clause-narrow : goal.place_split-requires-clause-narrow
place_split-requires-clause-narrow c = c.requires.open.narrow

pub returns-in-Close-clause-taken : goal.returns-in-Close-clause-taken
returns-in-Close-clause-taken c =
    let o = c.requires.open.is_open in
    rw c.in-Close.is (takes_ok c.args.self.now c.args.id c.args.region.now o.kept (Close c.in-Close.mult c.in-Close.farkas c.in-Close.basis) c.place_close.new.self o.leaf o.state c.place_close.result
    (subst (λ (d : LeafData). IfOk c.place_close.result (λ (t : Taken). TakesClose c.args.self.now c.args.id c.args.region.now d c.place_close.new.self t)) c.closed_data.ensures c.place_close.ensures.taken))

pub returns-in-Split-clause-taken : goal.returns-in-Split-clause-taken
returns-in-Split-clause-taken c =
    let o = c.requires.open.is_open in
    let fits : FitsSigned w128 c.in-Split.v = search rules in
    let same : to_z w128 (of_z w128 c.in-Split.v) ≡ c.in-Split.v = simp to_z-of_z in
    rw c.in-Split.is (takes_ok c.args.self.now c.args.id c.args.region.now o.kept (Split c.in-Split.col c.in-Split.v c.in-Split.mult c.in-Split.basis) c.place_split.new.self o.leaf o.state c.place_split.result
    (subst (λ (v : ℤ). IfOk c.place_split.result (λ (t : Taken). TakesSplit c.args.self.now c.args.id c.args.region.now c.in-Split.col.0 v c.in-Split.mult c.in-Split.basis c.place_split.new.self t)) same c.place_split.ensures.taken))
