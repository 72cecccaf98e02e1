use Rattle.std.proofs.Common.{pos}
use Rattle.std.proofs.lemmas.Bool.{false≢true}
use Rattle.frac128.specs.Rational.{int}
use Rattle.lp_model.specs.Regions.{region_low, region_high}
use Rattle.lp_model.specs.Formulations.{formulation}
use Rattle.leaf_dual.specs.Dual.{multiplier, cut_weight, column_reduced_cost}
use Rattle.leaf_dual.specs.Parts.{cost_of}
use Rattle.leaf_dual.proofs.DualLemmas.{needed-some, lacks_bound-is}
use Rattle.leaf_dual.proofs.OneAnswer.{entry-wide}
use Rattle.leaf_dual.proofs.leaf.Leaf.lacks_bound_at.Goals as goal

pub returns-then-is_bounded : goal.returns-then-is_bounded
returns-then-is_bounded c =
    let M = c.args.self.now.model.now in
    let cuts = c.args.self.now.cuts.now in
    let path = c.args.self.now.region.now in
    let left = column_reduced_cost (formulation M cuts) (multiplier c.args.self.now.mult.now) (cut_weight cuts c.args.self.now.mult.now) (cost_of c.args.self.now.costed M) c.args.col in
    let both = c.is_bounded.ensures.0 c.if-is_bounded.true in
    ((λ t. absurd (false≢true t)), (λ h. absurd (needed-some left (region_low M path c.args.col) (region_high M path c.args.col) both.0 both.1 h.1)))

pub returns-in-Ok : goal.returns-in-Ok
returns-in-Ok c =
    let M = c.args.self.now.model.now in
    let cuts = c.args.self.now.cuts.now in
    lacks_bound-is M cuts c.args.self.now.region.now (multiplier c.args.self.now.mult.now) (cut_weight cuts c.args.self.now.mult.now) (cost_of c.args.self.now.costed M) c.args.col c.in-Ok.reduced c.in-Ok.ensures
    c.column_side.result c.column_side.ensures c.is_none.result c.is_none.ensures

pub returns-in-Err : goal.returns-in-Err
returns-in-Err c =
    let M = c.args.self.now.model.now in
    let cuts = c.args.self.now.cuts.now in
    let y = multiplier c.args.self.now.mult.now in
    let z = cut_weight cuts c.args.self.now.mult.now in
    ((λ t. absurd (false≢true t)), (λ h. absurd (entry-wide (formulation M cuts) c.args.self.now.region.now y z (int (pos 0)) (cost_of c.args.self.now.costed M) c.args.col c.in-Err.field-0 c.in-Err.ensures h.0)))
