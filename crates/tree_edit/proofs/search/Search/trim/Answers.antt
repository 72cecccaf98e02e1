use Rattle.std.proofs.Common.{◌≡◌, ◌∙◌, refl, sym, subst, ap, Option}
use Rattle.frac128.specs.Rational.{ℚ}
use Rattle.branch_tree.specs.Numbered.{NumberedTree}
use Rattle.branch_tree.specs.Changes.{after_trim}
use Rattle.leaf_judging.specs.declared.numbers.LeafNumbers.{LeafNumbers}
use Rattle.leaf_judging.specs.declared.queue.LeafQueue.{LeafQueue}
use Rattle.leaf_judging.specs.Judged.{JudgesAll}
use Rattle.leaf_judging.specs.Numbers.{AreNumbersOf}
use Rattle.leaf_judging.specs.Queued.{IsQueueOf}
use Rattle.search_parts.specs.Points.{target}
use Rattle.sound_searches.specs.Sound.{PlainSearch, IsSoundTree, formulation_of}
use Rattle.sound_searches.specs.Trimmed.{TakesTree}
use Rattle.tree_edit.specs.Indexed.{IsIndexed}
use Rattle.tree_edit.proofs.TrimLemmas.{sound-trimmed, kept-tree}
use Rattle.tree_edit.proofs.search.Search.trim.Goals as goal

pub trimmed_tree-requires : goal.trimmed_tree-requires
trimmed_tree-requires c = c.self.invariant.sound.tree.narrow

pub invariant_of-self : goal.invariant_of-self
invariant_of-self c =
    let i = c.self.inside in
    let S : PlainSearch = record { model = i.model; cuts = i.pool; tree = i.tree; points = i.points.items } in
    let T : NumberedTree = after_trim i.tree c.args.depth in
    let U : NumberedTree = c.in-Ok.tree in
    let sound : IsSoundTree (formulation_of S) T.root = sound-trimmed (formulation_of S) S.tree c.args.depth c.self.invariant.sound.tree in
    let best : c.target-target.result ≡ target S.model S.points = c.target-target.ensures ∙ ap (λ (R : PlainSearch). target R.model R.points) (sym c.self.view_is) in
    let judges : JudgesAll (formulation_of S) (target S.model S.points) T U = subst (λ (t : Option ℚ). JudgesAll (formulation_of S) t T U) best c.in-Ok.ensures.judged in
    let numbers : AreNumbersOf (formulation_of S) U.root c.put_tree.new.numbers = subst (λ (n : LeafNumbers). AreNumbersOf (formulation_of S) U.root n) (sym c.put_tree.ensures.numbers) c.in-Ok.ensures.numbers in
    let queue : IsQueueOf (formulation_of S) U.root c.put_tree.new.queue = subst (λ (q : LeafQueue). IsQueueOf (formulation_of S) U.root q) (sym c.put_tree.ensures.queue) c.in-Ok.ensures.queue in
    subst (λ (N : NumberedTree). IsIndexed (record { model = i.model; cuts = i.pool; tree = N; points = i.points.items }) i.values.items c.put_tree.new.numbers c.put_tree.new.queue) (sym c.put_tree.ensures.tree)
    (kept-tree S i.values.items i.numbers c.put_tree.new.numbers i.queue c.put_tree.new.queue T U c.self.invariant sound judges numbers queue)

pub returns-in-Ok-clause-trims : goal.returns-in-Ok-clause-trims
returns-in-Ok-clause-trims c =
    let i = c.self.inside in
    let S : PlainSearch = record { model = i.model; cuts = i.pool; tree = i.tree; points = i.points.items } in
    let T : NumberedTree = after_trim i.tree c.args.depth in
    let best : c.target-target.result ≡ target S.model S.points = c.target-target.ensures ∙ ap (λ (R : PlainSearch). target R.model R.points) (sym c.self.view_is) in
    let judges : JudgesAll (formulation_of S) (target S.model S.points) T c.put_tree.new.place = subst (λ P. P) (λ k. JudgesAll (formulation_of S) (best k) T (sym c.put_tree.ensures.tree k)) c.in-Ok.ensures.judged in
    subst (λ (R : PlainSearch). TakesTree R (after_trim R.tree c.args.depth) (record { model = i.model; cuts = i.pool; tree = c.put_tree.new.place; points = i.points.items })) c.self.view_is
    (record { model = refl; cuts = refl; points = refl; tree = judges })
