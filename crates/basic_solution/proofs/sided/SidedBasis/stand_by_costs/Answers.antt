use Rattle.std.proofs.Common.{◌≡◌, ◌<◌, sym, ap, subst, arith, get_or, below_more}
use Rattle.table_entries.specs.declared.stand.Stand.TheVariants.{Free}
use Rattle.table_entries.specs.Relaxation.{reduced_cost}
use Rattle.basic_solution.specs.Held.{relaxation, table}
use Rattle.basic_solution.specs.Slack.{IsPlaced}
use Rattle.basic_solution.proofs.AskedLemmas.{restood_trans, restood_back, restood_placed, restood_misplaced}
use Rattle.basic_solution.proofs.sided.SidedBasis.stand_by_costs.Goals as goal

pub stand_by_cost-requires-clause-place : goal.stand_by_cost-requires-clause-place
stand_by_cost-requires-clause-place c =
    let same = ap (λ s. s.tableau.columns) c.loop-place.invariant.same in
    let less = c.loop-place-test.true in let f = c.columns-place-end.ensures.value in omega (arith, less, f, same)

pub stand_by_cost-requires-clause-cost : goal.stand_by_cost-requires-clause-cost
stand_by_cost-requires-clause-cost c =
    let place = c.loop-place.place in
    let within : place < c.args.self.now.tableau.columns = let less = c.loop-place-test.true in let f = c.columns-place-end.ensures.value in omega (arith, less, f) in
    subst (λ s. (relaxation s).cost ((table s).nonbasic place) ≡ reduced_cost (relaxation s) (table s) (relaxation s).cost place) (sym c.loop-place.invariant.same) (c.requires place within)

pub set_stand-requires : goal.set_stand-requires
set_stand-requires c =
    let same = ap (λ s. s.tableau.columns) c.loop-place.invariant.same in
    let less = c.loop-place-test.true in let f = c.columns-place-end.ensures.value in omega (arith, less, f, same)

pub returns-in-None-clause-same : goal.returns-in-None-clause-same
returns-in-None-clause-same c = c.loop-place.invariant.same

pub returns-clause-same : goal.returns-clause-same
returns-clause-same c = c.loop-place.invariant.same

pub returns-in-None-clause-misplaced : goal.returns-in-None-clause-misplaced
returns-in-None-clause-misplaced c = λ e.
    let inv = c.loop-place.invariant in
    let place = c.loop-place.place in
    let within : place < c.args.self.now.tableau.columns = let less = c.loop-place-test.true in let f = c.columns-place-end.ensures.value in omega (arith, less, f) in
    (place, (within, restood_misplaced c.args.self.now c.loop-place.self place inv.same c.in-None.ensures))

pub loop-place-preserved : goal.loop-place-preserved
loop-place-preserved c =
    let inv = c.loop-place.invariant in
    let place = c.loop-place.place in
    let old = c.args.self.now in
    let new = c.set_stand.new.self in
    record {
      same = restood_trans old c.loop-place.self new inv.same c.set_stand.ensures.same;
      placed = below_more (λ k. IsPlaced old k (get_or new.stands k Free)) place
          (λ k q. subst (λ st. IsPlaced old k st) (sym (c.set_stand.ensures.others k (λ e. omega (arith, q, e)))) (inv.placed k q))
          (subst (λ st. IsPlaced old place st) (sym c.set_stand.ensures.here) (restood_back old c.loop-place.self place c.in-Some.stand inv.same c.in-Some.ensures));
    }

pub returns-clause-placed : goal.returns-clause-placed
returns-clause-placed c = λ t k w.
    let inv = c.loop-place.invariant in
    let same = ap (λ s. s.tableau.columns) inv.same in
    let within : k < c.loop-place.place = let past = c.loop-place-test.false in let f = c.columns-place-end.ensures.value in omega (arith, past, f, same, w) in
    restood_placed c.args.self.now c.loop-place.self k (get_or c.loop-place.self.stands k Free) inv.same (inv.placed k within)
