use Rattle.std.proofs.Common.{◌∙◌, sym, subst, Ok}
use Rattle.std.proofs.lemmas.Bool.{false≢true}
use Rattle.dual_simplex.specs.private.BestPlaces.{IsBestBelow}
use Rattle.basic_solution.specs.Held.{state, table}
use Rattle.dual_simplex.proofs.EnterLemmas.{may_some, skip_best, first_place}
use Rattle.dual_simplex.proofs.entering.with_place.Goals as goal

pub returns-then-has_no_entry : goal.returns-then-has_no_entry
returns-then-has_no_entry c =
    let s = c.args.state.now in
    skip_best s c.args.row c.args.side c.args.place c.args.found
    (λ may. may_some c.args.side ((state s).stand c.args.place) ((table s).entry c.args.row c.args.place) may (c.has_no_entry.ensures c.if-has_no_entry.true)) c.requires.found

pub returns-then-not-may_enter : goal.returns-then-not-may_enter
returns-then-not-may_enter c =
    skip_best c.args.state.now c.args.row c.args.side c.args.place c.args.found (λ may. false≢true (sym c.if-not-may_enter.true ∙ c.may_enter.ensures.1 may)) c.requires.found

pub returns-in-None : goal.returns-in-None
returns-in-None c =
    let found = subst (λ o. IsBestBelow c.args.state.now c.args.row c.args.side c.args.place (Ok o)) c.in-None.is c.requires.found in
    (first_place c.args.state.now c.args.row c.args.side c.args.place found.1 (c.may_enter.ensures.0 c.if-not-may_enter.false) found.0, (tt, tt))

pub better-requires-clause-may : goal.better-requires-clause-may
better-requires-clause-may c = c.may_enter.ensures.0 c.if-not-may_enter.false

pub better-requires-clause-best : goal.better-requires-clause-best
better-requires-clause-best c = subst (λ o. IsBestBelow c.args.state.now c.args.row c.args.side c.args.place (Ok o)) c.in-Some.is c.requires.found
