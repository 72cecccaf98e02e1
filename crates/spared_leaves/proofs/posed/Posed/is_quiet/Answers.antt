use Rattle.std.proofs.Common.{◌∙◌, refl, sym, inr, pos}
use Rattle.frac128.specs.Rational.{int}
use Rattle.lp_model.specs.Regions.{region_low, region_high}
use Rattle.leaf_dual.specs.Dual.{needed_side}
use Rattle.spared_leaves.proofs.posed.Posed.is_quiet.Goals as goal

pub returns-in-Some-clause-quiet : goal.returns-in-Some-clause-quiet
returns-in-Some-clause-quiet c = λ quiet within.
    let M = c.args.self.now.model.now in
    let low = region_low M c.args.region.now c.args.col in
    let high = region_high M c.args.region.now c.args.col in
    record {
      entries = c.in-Some.ensures.fits;
      bound = int (pos 0);
      bound_is = (λ i. needed_side (sym c.in-Some.ensures.value i) low high) ∙ sym c.bound.ensures ∙ c.is_none.ensures quiet;
      quiet = inr refl;
    }
