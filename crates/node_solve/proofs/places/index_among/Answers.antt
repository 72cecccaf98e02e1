use Rattle.std.proofs.Common.{◌≡◌, ◌∙◌, sym, ap, arith, get_or}
use Rattle.kept_cuts.specs.Places.{index_among}
use Rattle.node_solve.proofs.PoolLemmas.{index-at, index-past}
use Rattle.node_solve.proofs.places.index_among.Goals as goal

pub returns-then-places-index : goal.returns-then-places-index
returns-then-places-index c =
    let places = c.args.places.now in
    let here : get_or places c.loop-index.index 0 ≡ c.args.place = c.if-places-index.true in
    sym (index-at places c.loop-index.index c.loop-index-test.true (λ j less e. c.loop-index.invariant j less (e ∙ here))) ∙ ap (λ p. index_among p places) here

pub returns : goal.returns
returns c = index-past c.args.places.now c.args.place (λ j below. c.loop-index.invariant j (let past = c.loop-index-test.false in omega (arith, below, past)))
