use Rattle.tight_regions.specs.Tight.{no_change}
use Rattle.tight_regions.proofs.TightLemmas.{tighten_there, tighten_none, set_back}
use Rattle.tight_regions.proofs.trail.tighten.Goals as goal

pub returns-then-place-count-clause-region : goal.returns-then-place-count-clause-region
returns-then-place-count-clause-region c =
    tighten_there c.args.places.now c.args.count c.args.change.now no_change c.place_of-place.result c.requires c.place_of-place.ensures.place c.if-place-count.true c.tighter.result c.tighter.ensures

pub returns-then-place-count-clause-back : goal.returns-then-place-count-clause-back
returns-then-place-count-clause-back c = set_back c.args.places.now c.place_of-place.result c.tighter.result no_change

pub returns-else-place-count-clause-region : goal.returns-else-place-count-clause-region
returns-else-place-count-clause-region c =
    tighten_none c.args.places.now c.args.count c.args.change.now no_change c.place_of-place.result c.requires c.place_of-place.ensures.place c.if-place-count.false

pub returns-else-place-count-clause-back : goal.returns-else-place-count-clause-back
returns-else-place-count-clause-back c = set_back c.args.places.now c.place_of-place.result c.args.change.now no_change
