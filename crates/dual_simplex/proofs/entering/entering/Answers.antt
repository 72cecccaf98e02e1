use Rattle.std.proofs.Common.{◌≡◌, ◌≤◌, ◌+◌, ◌<ℤ◌, sym, subst, arith, Some, None, Ok, pos, to_z, of_z, w64}
use Rattle.std.proofs.lemmas.Option.{IfSome_then}
use Rattle.table_entries.proofs.ReadLemmas.{short_read}
use Rattle.dual_simplex.specs.private.BestPlaces.{IsBestBelow}
use Rattle.dual_simplex.proofs.EnterLemmas.{none_entered, wide_among, best_of_all}
use Rattle.dual_simplex.proofs.entering.entering.Goals as goal

pub loop-place-init : goal.loop-place-init
loop-place-init c = none_entered c.args.state.now c.args.row c.args.side

pub loop-place-preserved : goal.loop-place-preserved
loop-place-preserved c = c.in-Ok.ensures

pub with_place-requires-clause-entries : goal.with_place-requires-clause-entries
with_place-requires-clause-entries c =
    let d = c.denominator.result in
    let d_is : to_z w64 (of_z w64 d) ≡ d = short_read d c.denominator.ensures.short in
    let positive : pos 0 <ℤ to_z w64 (of_z w64 d) = subst (λ y. pos 0 <ℤ y) (sym d_is) c.denominator.ensures.positive in
    IfSome_then c.row_over-entries.result c.row_over-entries.ensures (λ r are. (to_z w64 (of_z w64 d), (positive, are)))

pub with_place-requires-clause-found : goal.with_place-requires-clause-found
with_place-requires-clause-found c = c.loop-place.invariant

pub returns-in-Err : goal.returns-in-Err
returns-in-Err c =
    let within : c.loop-place.place + 1 ≤ c.args.state.now.tableau.columns = let w = c.loop-place-test.true in let e = c.columns-place-end.ensures.value in omega (arith, w, e) in
    wide_among c.args.state.now c.args.row c.args.side (c.loop-place.place + 1) c.args.state.now.tableau.columns within c.in-Err.step c.in-Err.ensures

pub returns-in-None : goal.returns-in-None
returns-in-None c =
    let all : c.loop-place.place ≡ c.args.state.now.tableau.columns = let past = c.loop-place-test.false in let within = c.loop-place.auto.place-end in let e = c.columns-place-end.ensures.value in omega (arith, past, within, e) in
    best_of_all c.args.state.now c.args.row c.args.side c.loop-place.place all None (subst (λ o. IsBestBelow c.args.state.now c.args.row c.args.side c.loop-place.place (Ok o)) c.in-None.is c.loop-place.invariant)

pub returns-in-Some : goal.returns-in-Some
returns-in-Some c =
    let all : c.loop-place.place ≡ c.args.state.now.tableau.columns = let past = c.loop-place-test.false in let within = c.loop-place.auto.place-end in let e = c.columns-place-end.ensures.value in omega (arith, past, within, e) in
    best_of_all c.args.state.now c.args.row c.args.side c.loop-place.place all (Some c.in-Some.best) (subst (λ o. IsBestBelow c.args.state.now c.args.row c.args.side c.loop-place.place (Ok o)) c.in-Some.is c.loop-place.invariant)
