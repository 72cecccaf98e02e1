use Rattle.std.proofs.Common.{[], sym, subst, arith}
use Rattle.branch_tree.specs.Numbered.{NumberedTree}
use Rattle.sound_searches.specs.Sound.{PlainSearch, formulation_of}
use Rattle.leaf_judging.specs.Queued.{HasFiniteNumber}
use Rattle.tree_edit.specs.Indexed.{IsIndexed}
use Rattle.sound_searches.specs.Placing.{IsAt}
use Rattle.branch_tree.specs.Changes.{HasLeaf}
use Rattle.leaf_judging.specs.Closing.{IsJudgedLeaf}
use Rattle.leaf_judging.specs.Totals.{IsEntryOf}
use Rattle.search_parts.specs.Points.{target}
use Rattle.search_parts.specs.Lists.{HasLists}
use Rattle.sound_searches.proofs.SoundLemmas.{sound-with_leaf}
use Rattle.tree_edit.proofs.QueueChanges.{queue-closed}
use Rattle.tree_edit.proofs.SameNumbers.{kept-there, numbers-put}
use Rattle.tree_edit.proofs.search.Search.put_closed.Goals as goal
use Rattle.lp_model.specs.Formulations.{formulation}

pub set-requires : goal.set-requires
set-requires c =
    let i = c.self.inside in
    let has : HasLeaf i.tree c.args.id = subst (λ (T : PlainSearch). HasLeaf T.tree c.args.id) (sym c.self.view_is) c.requires.leaf.has in
    kept-there (formulation i.model i.pool) i.numbers c.args.id [] i.tree.root c.self.invariant.numbers_are (omega (arith, has))

pub set_leaf-requires : goal.set_leaf-requires
set_leaf-requires c = subst (λ (T : PlainSearch). HasLeaf T.tree c.args.id) (sym c.self.view_is) c.requires.leaf.has

pub invariant_of-self : goal.invariant_of-self
invariant_of-self c =
    let i = c.self.inside in
    let id = c.args.id in
    let kept = c.args.kept in
    let path = c.args.region.now in
    let S : PlainSearch = record { model = i.model; cuts = i.pool; tree = i.tree; points = i.points.items } in
    let at : IsAt id path S.tree.root = subst (λ (T : PlainSearch). IsAt id path T.tree.root) (sym c.self.view_is) c.requires.leaf.at in
    let entry : IsEntryOf (formulation_of S) path kept.mult kept.farkas c.args.entry = subst (λ (T : PlainSearch). IsEntryOf (formulation_of T) path kept.mult kept.farkas c.args.entry) (sym c.self.view_is) c.requires.entry in
    let lists : HasLists (formulation_of S) kept = subst (λ (T : PlainSearch). HasLists (formulation_of T) kept) (sym c.self.view_is) c.requires.lists in
    let judged : IsJudgedLeaf (formulation_of S) (target S.model S.points) path kept = subst (λ (T : PlainSearch). IsJudgedLeaf (formulation_of T) (target T.model T.points) path kept) (sym c.self.view_is) c.requires.judged in
    let r = c.leaf_number_of-leaf_number.result in
    let ranked : HasFiniteNumber (formulation_of S) S.tree.root (record { leaf_number = r; id = id }) = subst (λ (T : PlainSearch). HasFiniteNumber (formulation_of T) T.tree.root (record { leaf_number = r; id = id })) (sym c.self.view_is) c.leaf_number_of-leaf_number.ensures in
    subst (λ (T : NumberedTree). IsIndexed (record { model = i.model; cuts = i.pool; tree = T; points = i.points.items }) i.values.items c.set.new.self c.remove.new.self) (sym c.set_leaf.ensures)
    (record {
      sound = sound-with_leaf S id path kept c.self.invariant.sound at lists judged;
      values_are = c.self.invariant.values_are;
      numbers_are = numbers-put (formulation_of S) S.tree.root i.numbers c.self.invariant.numbers_are id path kept c.args.entry c.set.new.self at entry c.set.ensures;
      queue_is = queue-closed (formulation_of S) S.tree.root r id path kept at ranked i.queue c.remove.new.self c.self.invariant.queue_is c.remove.ensures c.requires.closed;
    })
