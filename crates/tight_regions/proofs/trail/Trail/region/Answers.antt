use Rattle.std.proofs.Common.{length, take, subst, sym, arith, ap}
use Rattle.std.proofs.lemmas.List.{length-take-le}
use Rattle.lp_model.specs.Regions.{AreNarrow}
use Rattle.tight_regions.specs.Tight.{AreChangesApart, path_of_trail}
use Rattle.tight_regions.specs.SameBounds.{SameBounds}
use Rattle.tight_regions.proofs.TrailLemmas.{trail-few, trail-apart, trail-bounds, trail-narrow}
use Rattle.tight_regions.proofs.trail.Trail.region.Goals as goal

pub slice_bounds-result-end : goal.slice_bounds-result-end
slice_bounds-result-end c =
    let few = trail-few c.args.self.now c.requires in
    let within = c.requires.within in
    let even = c.requires.region in
    let same = ap length c.deref.ensures.value in
    sym (length-take-le c.args.self.now.count c.deref.result.now (omega (arith, few, within, even, same)))

pub returns-clause-apart : goal.returns-clause-apart
returns-clause-apart c = subst (λ l. AreChangesApart (take c.args.self.now.count l)) (sym c.deref.ensures.value) (trail-apart c.args.self.now c.requires)

pub returns-clause-bounds : goal.returns-clause-bounds
returns-clause-bounds c = subst (λ l. SameBounds (take c.args.self.now.count l) (path_of_trail c.args.self.now)) (sym c.deref.ensures.value) (trail-bounds c.args.self.now c.requires)

pub returns-clause-narrow : goal.returns-clause-narrow
returns-clause-narrow c = λ narrow. subst (λ l. AreNarrow (take c.args.self.now.count l)) (sym c.deref.ensures.value) (trail-narrow c.args.self.now c.requires narrow)
