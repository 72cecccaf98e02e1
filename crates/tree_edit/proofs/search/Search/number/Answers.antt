use Rattle.std.proofs.Common.{sym, subst}
use Rattle.sound_searches.specs.Sound.{PlainSearch}
use Rattle.sound_searches.specs.Calls.{IsLeafNumberAnswer}
use Rattle.tree_edit.proofs.SameNumbers.{number-found}
use Rattle.tree_edit.proofs.search.Search.number.Goals as goal

pub returns-in-Some : goal.returns-in-Some
returns-in-Some c =
    let i = c.self.inside in
    let S : PlainSearch = record { model = i.model; cuts = i.pool; tree = i.tree; points = i.points.items } in
    subst (λ (R : PlainSearch). IsLeafNumberAnswer R c.args.id c.get.result) c.self.view_is
    (number-found S i.numbers c.args.id c.in-Some.field-0.now c.get.result c.self.invariant.numbers_are (sym c.in-Some.ensures.data) c.get.ensures)
