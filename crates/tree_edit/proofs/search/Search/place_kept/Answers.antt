use Rattle.std.proofs.Common.{◌≡◌, ◌∙◌, IfOk, ap, sym, subst}
use Rattle.branch_tree.specs.declared.node.LeafData.{LeafData}
use Rattle.branch_tree.specs.declared.node.NodeResult.TheVariants.{Keep}
use Rattle.sound_searches.specs.declared.taken.Taken.{Taken}
use Rattle.sound_searches.specs.Placing.{TakesBasis, with_basis}
use Rattle.sound_searches.proofs.PlaceLemmas.{takes_ok, some_same}
use Rattle.tree_edit.proofs.search.Search.place_kept.Goals as goal

pub with_basis_at-requires : goal.with_basis_at-requires
with_basis_at-requires c = c.requires.open.leaf.has

pub place_basis-requires-clause-leaf : goal.place_basis-requires-clause-leaf
place_basis-requires-clause-leaf c = c.requires.open.leaf

pub place_basis-requires-clause-own : goal.place_basis-requires-clause-own
place_basis-requires-clause-own c = c.in-Ok.ensures.own

pub place_basis-requires-clause-mult : goal.place_basis-requires-clause-mult
place_basis-requires-clause-mult c = c.in-Ok.ensures.mult

pub place_basis-requires-clause-farkas : goal.place_basis-requires-clause-farkas
place_basis-requires-clause-farkas c = c.in-Ok.ensures.farkas

pub returns-in-Ok-clause-taken : goal.returns-in-Ok-clause-taken
returns-in-Ok-clause-taken c =
    let o = c.requires.open.is_open in
    let found = c.in-Ok.ensures.data in
    let same : found.0 ≡ o.kept = some_same found.0 o.kept (sym found.1.0 ∙ o.leaf.data_is) in
    takes_ok c.args.self.now c.args.id c.args.region.now o.kept (Keep c.args.point c.args.basis) c.place_basis.new.self o.leaf o.state c.place_basis.result
    (subst (λ (d : LeafData). IfOk c.place_basis.result (λ (t : Taken). TakesBasis c.args.self.now c.args.id c.args.region.now c.args.point d c.place_basis.new.self t))
    (found.1.1 ∙ ap (λ (d : LeafData). with_basis d c.args.basis) same) c.place_basis.ensures.taken)

pub returns-in-Ok-clause-kept : goal.returns-in-Ok-clause-kept
returns-in-Ok-clause-kept c = c.place_basis.ensures.kept
