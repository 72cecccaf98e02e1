use Rattle.std.specs.Prelude.{IfOk, OnErr}
use Rattle.std.proofs.Common.{sym, subst}
use Rattle.sound_searches.specs.Sound.{PlainSearch}
use Rattle.tree_search.specs.Causes.{IsAtEnd, IsEnoughForSearch}
use Rattle.tree_search.specs.Search.{Finds, GivesUp}
use Rattle.tree_search.specs.Solves.{turn_order_of}
use Rattle.tree_search.proofs.CauseLemmas.{found, complete}
use Rattle.tree_search.proofs.searching.search_on.Goals as goal

pub go_on-searched-requires-clause-ready : goal.go_on-searched-requires-clause-ready
go_on-searched-requires-clause-ready c = record { ways = c.requires.ways; first = c.requires.first }

pub returns-clause-found : goal.returns-clause-found
returns-clause-found c =
    let b = c.args.limits.now in
    let S : PlainSearch = c.args.manager.search in
    subst (λ T. IfOk c.go_on-searched.result (λ searched. Finds c.args.ways.now c.args.first.now (turn_order_of b) b.nodes b.pivots S T searched)) (sym c.into_search.ensures)
    (found _ (turn_order_of b) b.nodes S c.show_manager.ensures.sound c.show_manager.ensures.lawful c.requires.ways c.go_on-searched.new.manager.search c.go_on-searched.result c.go_on-searched.ensures.comes)

pub returns-clause-complete : goal.returns-clause-complete
returns-clause-complete c =
    let b = c.args.limits.now in
    let S : PlainSearch = c.args.manager.search in
    subst (λ (T : PlainSearch). IfOk c.go_on-searched.result (λ searched. IsEnoughForSearch S T.cuts c.args.ways.now b.nodes b.pivots → IsAtEnd searched.ended)) (sym c.into_search.ensures)
    (complete _ (turn_order_of b) b.nodes S c.show_manager.ensures.sound c.show_manager.ensures.lawful c.requires.ways c.go_on-searched.new.manager.search c.go_on-searched.result c.go_on-searched.ensures.comes)

pub returns-clause-unfinished : goal.returns-clause-unfinished
returns-clause-unfinished c =
    let b = c.args.limits.now in
    let S : PlainSearch = c.args.manager.search in
    subst (λ T. OnErr c.go_on-searched.result (GivesUp c.args.ways.now c.args.first.now (turn_order_of b) b.nodes b.pivots S T)) (sym c.into_search.ensures) c.go_on-searched.ensures.unfinished
