use Rattle.std.specs.Prelude.{Some}
use Rattle.std.proofs.Common.{◌≡◌, sym, subst}
use Rattle.std.proofs.lemmas.Result.{IfOk-weaker}
use Rattle.branch_tree.specs.Plain.{data_of}
use Rattle.branch_tree.specs.declared.node.LeafData.{LeafData}
use Rattle.sound_searches.specs.Placing.{closed_data}
use Rattle.sound_searches.specs.Sound.{PlainSearch}
use Rattle.tree_edit.proofs.search.Search.closed_at.Goals as goal

pub returns : goal.returns
returns c =
    let found : LeafData = c.in-Some.leaf.now in
    let data_is : data_of c.args.id c.args.self.now.tree.root ≡ Some found = subst (λ (R : PlainSearch). data_of c.args.id R.tree.root ≡ Some found) c.self.view_is (sym c.in-Some.ensures.data) in
    IfOk-weaker c.closed_like.result (λ (kept : LeafData). kept ≡ closed_data c.args.mult found.farkas c.args.basis)
    (λ (kept : LeafData). (leaf : LeafData) × ((data_of c.args.id c.args.self.now.tree.root ≡ Some leaf) × (kept ≡ closed_data c.args.mult leaf.farkas c.args.basis)))
    (λ kept is. (found, (data_is, is))) c.closed_like.ensures
