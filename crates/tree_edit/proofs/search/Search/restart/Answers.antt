use Rattle.std.proofs.Common.{refl, sym, subst}
use Rattle.std.specs.Prelude.{None}
use Rattle.branch_tree.specs.Changes.{first_tree}
use Rattle.branch_tree.specs.Numbered.{NumberedTree}
use Rattle.lp_model.specs.Formulations.{without_cuts}
use Rattle.leaf_judging.specs.Judged.{JudgesAll}
use Rattle.leaf_judging.specs.Numbers.{AreNumbersOf}
use Rattle.leaf_judging.specs.Queued.{IsQueueOf}
use Rattle.sound_searches.specs.Sound.{PlainSearch}
use Rattle.sound_searches.specs.Calls.{IsFresh}
use Rattle.tree_edit.proofs.FreshSearch.{fresh-indexed}
use Rattle.tree_edit.proofs.search.Search.restart.Goals as goal

pub invariant_of-self : goal.invariant_of-self
invariant_of-self c =
    let i = c.self.inside in
    let F = without_cuts i.model in
    let T : NumberedTree = c.put_tree.new.place in
    let judges : JudgesAll F None (first_tree c.limit.result) T = subst (λ (N : NumberedTree). JudgesAll F None (first_tree c.limit.result) N) (sym c.put_tree.ensures.tree) c.in-Ok.ensures.judged in
    let numbers : AreNumbersOf F T.root c.put_tree.new.numbers = subst (λ P. P) (λ k. AreNumbersOf F (sym c.put_tree.ensures.tree k).root (sym c.put_tree.ensures.numbers k)) c.in-Ok.ensures.numbers in
    let queue : IsQueueOf F T.root c.put_tree.new.queue = subst (λ P. P) (λ k. IsQueueOf F (sym c.put_tree.ensures.tree k).root (sym c.put_tree.ensures.queue k)) c.in-Ok.ensures.queue in
    fresh-indexed i.model c.limit.result T c.put_tree.new.numbers c.put_tree.new.queue judges numbers queue c.clear.new.pool c.clear.new.points.items c.clear.new.values.items c.clear.ensures.pool c.clear.ensures.points c.clear.ensures.values

pub returns-clause-fresh : goal.returns-clause-fresh
returns-clause-fresh c =
    let i = c.self.inside in
    let new : PlainSearch = record { model = i.model; cuts = c.clear.new.pool; tree = c.put_tree.new.place; points = c.clear.new.points.items } in
    subst (λ (R : PlainSearch). IsFresh R.model R.tree.limit new) c.self.view_is (record {
      model = refl;
      cuts = c.clear.ensures.pool;
      tree = subst (λ P. P) (λ k. JudgesAll (without_cuts i.model) None (first_tree (c.limit.ensures k)) (sym c.put_tree.ensures.tree k)) c.in-Ok.ensures.judged;
      points = c.clear.ensures.points;
    })
