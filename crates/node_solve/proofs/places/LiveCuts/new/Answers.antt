use Rattle.std.proofs.Common.{◌≡◌, ◌<◌, ◌∙◌, ap, arith, length, get_or}
use Rattle.std.proofs.lemmas.List.{take_all}
use Rattle.node_solve.specs.Places.{live_cuts, live_places}
use Rattle.node_solve.proofs.LiveLemmas.{live-next, places-next}
use Rattle.node_solve.proofs.places.LiveCuts.new.Goals as goal

pub loop-place-preserved : goal.loop-place-preserved
loop-place-preserved c =
    let pool = c.args.pool.now in
    let k = c.loop-place.place in
    let size : length c.rows-rows.result.now ≡ length pool = ap length c.rows-rows.ensures.rows in
    let below : k < length pool = let h = c.loop-place-test.true in omega (arith, h, size) in
    let cut = c.index-rows-place.result in
    let is : cut ≡ get_or pool k cut = c.index-rows-place.is ∙ ap (λ xs. get_or xs k cut) c.rows-rows.ensures.rows in
    record {
      cuts = live-next pool k cut below is c.loop-place.cuts.items c.note.new.cuts.items c.loop-place.invariant.cuts c.in-Ok.ensures.cuts;
      places = places-next pool k cut below is c.loop-place.cuts.items c.loop-place.places.items c.note.new.places.items c.loop-place.invariant.cuts c.loop-place.invariant.places c.in-Ok.ensures.places;
    }

pub returns-clause-cuts : goal.returns-clause-cuts
returns-clause-cuts c =
    let size : length c.rows-rows.result.now ≡ length c.args.pool.now = ap length c.rows-rows.ensures.rows in
    c.loop-place.invariant.cuts ∙ ap (λ l. live_cuts 200 l) (take_all c.loop-place.place c.args.pool.now (let h = c.loop-place-test.false in omega (arith, h, size)))

pub returns-clause-places : goal.returns-clause-places
returns-clause-places c =
    let size : length c.rows-rows.result.now ≡ length c.args.pool.now = ap length c.rows-rows.ensures.rows in
    c.loop-place.invariant.places ∙ ap (λ l. live_places 200 0 l) (take_all c.loop-place.place c.args.pool.now (let h = c.loop-place-test.false in omega (arith, h, size)))
