use Rattle.std.proofs.Common.{rules, None, Some, subst}
use Rattle.sound_searches.specs.Sound.{PlainSearch}
use Rattle.sound_searches.specs.Calls.{IsNext}
use Rattle.tree_edit.proofs.NextLemmas.{next-none, next-some}
use Rattle.tree_edit.proofs.search.Search.next_leaf.Goals as goal

pub returns-in-None : goal.returns-in-None
returns-in-None c =
    let i = c.self.inside in
    let S : PlainSearch = record { model = i.model; cuts = i.pool; tree = i.tree; points = i.points.items } in
    let none : IsNext S None = next-none S i.queue c.self.invariant.queue_is (search rules) in
    subst (λ (T : PlainSearch). IsNext T None) c.self.view_is none

pub returns-in-Some : goal.returns-in-Some
returns-in-Some c =
    let i = c.self.inside in
    let S : PlainSearch = record { model = i.model; cuts = i.pool; tree = i.tree; points = i.points.items } in
    let some : IsNext S (Some c.in-Some.first.id) = next-some S i.queue c.in-Some.first c.self.invariant.queue_is c.in-Some.ensures in
    subst (λ (T : PlainSearch). IsNext T (Some c.in-Some.first.id)) c.self.view_is some
