use Rattle.std.proofs.Common.{List, sym, subst}
use Rattle.frac128.specs.Rational.{ℚ}
use Rattle.lp_model.specs.declared.types.ColId.{ColId}
use Rattle.dual_bounds.specs.declared.new_numbers.OtherNumbers.{OtherNumbers}
use Rattle.dual_bounds.specs.private.Spared.{HasQuietCost, IsSparedLeaf}
use Rattle.dual_bounds.proofs.walk.Listing.is_spared.Goals as goal

pub returns-in-Sides : goal.returns-in-Sides
returns-in-Sides c =
    let L = c.args.self.now in
    λ is. subst (λ (g : OtherNumbers). IsSparedLeaf g L.search.now L.model.now L.pool.now c.args.region.now c.args.kept.now) (sym c.in-Sides.is) (c.has_spared_lists.ensures.mult is, c.has_spared_lists.ensures.farkas is)

pub returns-in-Costs : goal.returns-in-Costs
returns-in-Costs c =
    let L = c.args.self.now in
    λ is. subst (λ (g : OtherNumbers). IsSparedLeaf g L.search.now L.model.now L.pool.now c.args.region.now c.args.kept.now) (sym c.in-Costs.is)
    (subst (λ (costs : List (ColId × ℚ)). HasQuietCost L.search.now L.model.now L.pool.now costs c.args.region.now c.args.kept.now) c.as_slice-list.ensures (c.has_quiet_cost.ensures is))
