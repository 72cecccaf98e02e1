use Rattle.std.proofs.Common.{inl, inr}
use Rattle.lp_model.specs.Formulations.{formulation}
use Rattle.leaf_judging.proofs.SameNumber.{number-same}
use Rattle.dual_bounds.proofs.walk.Listing.number_at.Goals as goal

pub returns-then-is_spared : goal.returns-then-is_spared
returns-then-is_spared c = λ path same. inr (record {
  region = c.args.region.now;
  same = same;
  spared = c.is_spared.ensures c.if-is_spared.true;
  numbers = c.numbers.result.now;
  numbers_are = c.numbers.ensures;
  is = c.number_or_minus.ensures.kept;
})

pub returns : goal.returns
returns c =
    let kept = c.args.kept.now in
    λ path same. inl (number-same (formulation c.args.self.now.model.now c.args.self.now.pool.now) c.args.region.now path same kept.mult kept.farkas c.number_of.result c.number_of.ensures)
