use Rattle.std.proofs.Common.{◌≡◌, ◌∙◌, Some, ap, refl, sym, subst}
use Rattle.branch_tree.specs.Plain.{data_of}
use Rattle.branch_tree.specs.declared.node.LeafData.{LeafData}
use Rattle.sound_searches.specs.Sound.{PlainSearch}
use Rattle.sound_searches.proofs.PlaceLemmas.{some_same}
use Rattle.tree_edit.proofs.search.Search.job_at.Goals as goal

pub returns-in-Ok : goal.returns-in-Ok
returns-in-Ok c =
    let o = c.requires.is_open in
    let kept : LeafData = c.in-Some.kept.now in
    let data_is : data_of c.args.id c.args.self.now.tree.root ≡ Some kept = subst (λ (R : PlainSearch). data_of c.args.id R.tree.root ≡ Some kept) c.self.view_is (sym c.in-Some.ensures.data) in
    let same : kept ≡ o.kept = some_same kept o.kept (sym data_is ∙ o.leaf.data_is) in
    record {
      id_is = refl;
      kept = o.kept;
      leaf = o.leaf;
      state = o.state;
      mult_is = c.in-Ok.ensures.mult ∙ ap (λ (d : LeafData). d.mult) same;
      basis_is = c.in-Ok.ensures.basis ∙ ap (λ (d : LeafData). d.basis) same;
      target_is = c.target.ensures;
    }
