use Rattle.std.specs.Prelude.{Some}
use Rattle.std.proofs.Common.{◌≡◌, sym, subst}
use Rattle.std.proofs.lemmas.Result.{IfOk-weaker}
use Rattle.branch_tree.specs.Plain.{data_of}
use Rattle.branch_tree.specs.declared.node.LeafData.{LeafData}
use Rattle.leaf_judging.specs.Queued.{HasMultipliers}
use Rattle.search_parts.specs.Lists.{AreMultipliers, HasLists}
use Rattle.sound_searches.specs.Placing.{with_basis}
use Rattle.sound_searches.specs.Sound.{PlainSearch, formulation_of}
use Rattle.sound_searches.proofs.PlaceLemmas.{lists-found}
use Rattle.tree_edit.proofs.QueuedLemmas.{own-multipliers}
use Rattle.tree_edit.proofs.search.Search.with_basis_at.Goals as goal

pub returns-clause-data : goal.returns-clause-data
returns-clause-data c =
    let found : LeafData = c.in-Some.leaf.now in
    let data_is : data_of c.args.id c.args.self.now.tree.root ≡ Some found = subst (λ (R : PlainSearch). data_of c.args.id R.tree.root ≡ Some found) c.self.view_is (sym c.in-Some.ensures.data) in
    IfOk-weaker c.with_basis.result (λ (kept : LeafData). kept ≡ with_basis found c.args.basis)
    (λ (kept : LeafData). (leaf : LeafData) × ((data_of c.args.id c.args.self.now.tree.root ≡ Some leaf) × (kept ≡ with_basis leaf c.args.basis)))
    (λ kept is. (found, (data_is, is))) c.with_basis.ensures

pub returns-clause-own : goal.returns-clause-own
returns-clause-own c =
    let i = c.self.inside in
    let S : PlainSearch = record { model = i.model; cuts = i.pool; tree = i.tree; points = i.points.items } in
    let found : LeafData = c.in-Some.leaf.now in
    let own : HasMultipliers c.args.id found S.tree.root = own-multipliers c.args.id S.tree.root found c.in-Some.ensures.found (sym c.in-Some.ensures.data) in
    let there : HasMultipliers c.args.id found c.args.self.now.tree.root = subst (λ (R : PlainSearch). HasMultipliers c.args.id found R.tree.root) c.self.view_is own in
    IfOk-weaker c.with_basis.result (λ (kept : LeafData). kept ≡ with_basis found c.args.basis) (λ (kept : LeafData). HasMultipliers c.args.id kept c.args.self.now.tree.root)
    (λ kept is. subst (λ (d : LeafData). HasMultipliers c.args.id d c.args.self.now.tree.root) (sym is) there) c.with_basis.ensures

pub returns-clause-mult : goal.returns-clause-mult
returns-clause-mult c =
    let i = c.self.inside in
    let S : PlainSearch = record { model = i.model; cuts = i.pool; tree = i.tree; points = i.points.items } in
    let found : LeafData = c.in-Some.leaf.now in
    let lists : HasLists (formulation_of S) found = lists-found S c.args.id found c.self.invariant.sound (sym c.in-Some.ensures.data) in
    let there : AreMultipliers (formulation_of c.args.self.now) found.mult = subst (λ (R : PlainSearch). AreMultipliers (formulation_of R) found.mult) c.self.view_is lists.mult in
    IfOk-weaker c.with_basis.result (λ (kept : LeafData). kept ≡ with_basis found c.args.basis) (λ (kept : LeafData). AreMultipliers (formulation_of c.args.self.now) kept.mult)
    (λ kept is. subst (λ (d : LeafData). AreMultipliers (formulation_of c.args.self.now) d.mult) (sym is) there) c.with_basis.ensures

pub returns-clause-farkas : goal.returns-clause-farkas
returns-clause-farkas c =
    let i = c.self.inside in
    let S : PlainSearch = record { model = i.model; cuts = i.pool; tree = i.tree; points = i.points.items } in
    let found : LeafData = c.in-Some.leaf.now in
    let lists : HasLists (formulation_of S) found = lists-found S c.args.id found c.self.invariant.sound (sym c.in-Some.ensures.data) in
    let there : AreMultipliers (formulation_of c.args.self.now) found.farkas = subst (λ (R : PlainSearch). AreMultipliers (formulation_of R) found.farkas) c.self.view_is lists.farkas in
    IfOk-weaker c.with_basis.result (λ (kept : LeafData). kept ≡ with_basis found c.args.basis) (λ (kept : LeafData). AreMultipliers (formulation_of c.args.self.now) kept.farkas)
    (λ kept is. subst (λ (d : LeafData). AreMultipliers (formulation_of c.args.self.now) d.farkas) (sym is) there) c.with_basis.ensures
