use Rattle.std.proofs.Common.{◌≡◌, ◌∙◌, Some, ap, sym, subst}
use Rattle.branch_tree.specs.Plain.{data_of}
use Rattle.branch_tree.specs.Leaves.{with_state}
use Rattle.branch_tree.specs.Numbered.{NumberedTree}
use Rattle.branch_tree.specs.Changes.{HasLeaf, with_leaf}
use Rattle.branch_tree.specs.declared.node.LeafData.{LeafData}
use Rattle.leaf_judging.specs.Closing.{IsJudged, IsJudgedLeaf}
use Rattle.leaf_judging.specs.Queued.{HasMultipliers, HasState}
use Rattle.sound_searches.specs.Sound.{PlainSearch, formulation_of}
use Rattle.search_parts.specs.Lists.{HasLists}
use Rattle.search_parts.specs.Points.{target}
use Rattle.sound_searches.specs.Placing.{IsAt, search_with_leaf}
use Rattle.sound_searches.proofs.SoundLemmas.{sound-with_leaf}
use Rattle.tree_edit.specs.Indexed.{IsIndexed}
use Rattle.tree_edit.proofs.QueuedLemmas.{own-state}
use Rattle.tree_edit.proofs.QueueChanges.{queue-stays}
use Rattle.tree_edit.proofs.SameNumbers.{numbers-stay, own-judged}
use Rattle.tree_edit.proofs.search.Search.put_judged.Goals as goal

pub set_leaf-requires : goal.set_leaf-requires
set_leaf-requires c = subst (λ (T : PlainSearch). HasLeaf T.tree c.args.id) (sym c.self.view_is) c.requires.leaf.has

pub invariant_of-self : goal.invariant_of-self
invariant_of-self c =
    let i = c.self.inside in
    let S : PlainSearch = record { model = i.model; cuts = i.pool; tree = i.tree; points = i.points.items } in
    let id = c.args.id in
    let path = c.args.region.now in
    let kept = c.args.kept in
    let new = c.in_state-kept.result in
    let is : new ≡ with_state c.in-Some.leaf.now.state kept = c.in_state-kept.ensures in
    let found : LeafData = c.in-Some.leaf.now in
    let data_is : data_of id S.tree.root ≡ Some found = sym c.in-Some.ensures.data in
    let at : IsAt id path S.tree.root = subst (λ (R : PlainSearch). IsAt id path R.tree.root) (sym c.self.view_is) c.requires.leaf.at in
    let own : HasMultipliers id kept S.tree.root = subst (λ (R : PlainSearch). HasMultipliers id kept R.tree.root) (sym c.self.view_is) c.requires.own in
    let own_new : HasMultipliers id new S.tree.root = subst (λ (d : LeafData). HasMultipliers id d S.tree.root) (sym is) own in
    let state : HasState id new.state S.tree.root = subst (λ (d : LeafData). HasState id d.state S.tree.root) (sym is) (own-state id S.tree.root found c.in-Some.ensures.found data_is) in
    let fit : HasLists (formulation_of S) kept = subst (λ (R : PlainSearch). HasLists (formulation_of R) kept) (sym c.self.view_is) c.requires.lists in
    let lists : HasLists (formulation_of S) new = subst (λ (d : LeafData). HasLists (formulation_of S) d) (sym is) (record { mult = fit.mult; farkas = fit.farkas; basis = fit.basis }) in
    let says : IsJudged (formulation_of S) (target S.model S.points) path kept.mult kept.farkas found.state = own-judged (formulation_of S) (target S.model S.points) S.tree.root id path kept found at own c.self.invariant.sound.judged data_is in
    let judged : IsJudgedLeaf (formulation_of S) (target S.model S.points) path new = subst (λ (d : LeafData). IsJudgedLeaf (formulation_of S) (target S.model S.points) path d) (sym is) says in
    subst (λ (T : NumberedTree). IsIndexed (record { model = i.model; cuts = i.pool; tree = T; points = i.points.items }) i.values.items i.numbers i.queue) (sym c.set_leaf.ensures)
    (record {
      sound = sound-with_leaf S id path new c.self.invariant.sound at lists judged;
      values_are = c.self.invariant.values_are;
      numbers_are = numbers-stay (formulation_of S) S.tree.root i.numbers c.self.invariant.numbers_are id path new at own_new state;
      queue_is = queue-stays (formulation_of S) S.tree.root id path new at own_new state i.queue c.self.invariant.queue_is;
    })

pub returns : goal.returns
returns c =
    let i = c.self.inside in
    let S : PlainSearch = record { model = i.model; cuts = i.pool; tree = i.tree; points = i.points.items } in
    let id = c.args.id in
    let path = c.args.region.now in
    let kept = c.args.kept in
    let found : LeafData = c.in-Some.leaf.now in
    let data_is : data_of id S.tree.root ≡ Some found = sym c.in-Some.ensures.data in
    let at : IsAt id path S.tree.root = subst (λ (R : PlainSearch). IsAt id path R.tree.root) (sym c.self.view_is) c.requires.leaf.at in
    let own : HasMultipliers id kept S.tree.root = subst (λ (R : PlainSearch). HasMultipliers id kept R.tree.root) (sym c.self.view_is) c.requires.own in
    let judged : IsJudged (formulation_of S) (target S.model S.points) path kept.mult kept.farkas found.state = own-judged (formulation_of S) (target S.model S.points) S.tree.root id path kept found at own c.self.invariant.sound.judged data_is in (
      found.state,
      (
        subst (λ (R : PlainSearch). IsJudged (formulation_of R) (target R.model R.points) path kept.mult kept.farkas found.state) c.self.view_is judged,
        ap (λ (U : NumberedTree). let R : PlainSearch = record { model = i.model; cuts = i.pool; tree = U; points = i.points.items } in R) (c.set_leaf.ensures ∙ ap (λ (d : LeafData). with_leaf i.tree id d) c.in_state-kept.ensures)
            ∙ ap (λ (R : PlainSearch). search_with_leaf R id (with_state found.state kept)) c.self.view_is,
      ),
    )
