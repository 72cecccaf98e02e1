use Rattle.std.proofs.Common.{◌∙◌, arith}
use Rattle.std.proofs.lemmas.List.{length-set}
use Rattle.tight_regions.proofs.TrailLemmas.{trail-back, path-back}
use Rattle.tight_regions.proofs.trail.Trail.pop.Goals as goal

pub returns-clause-trail : goal.returns-clause-trail
returns-clause-trail c =
    let t = c.args.self.now in
    let last = c.index-last.result.now in
    record {
      region = length-set t.region.items last.place last.was ∙ c.requires.trail.region;
      replaced = c.requires.trail.replaced;
      within = let within = c.requires.trail.within in omega (arith, within);
      led = trail-back t c.requires.trail c.requires.some last c.index-last.ensures;
    }

pub returns-clause-path : goal.returns-clause-path
returns-clause-path c = path-back c.args.self.now c.requires.trail c.requires.some c.index.result.now c.index.ensures
