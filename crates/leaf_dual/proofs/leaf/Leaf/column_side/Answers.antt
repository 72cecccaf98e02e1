use Rattle.std.proofs.Common.{◌≡◌, ◌∙◌, ap, pos, Some, true, false}
use Rattle.frac128.specs.Rational.{int, ◌<ℚ◌}
use Rattle.lp_model.specs.Regions.{region_low, region_high}
use Rattle.lp_model.proofs.SideLemmas.{needed-positive, needed-negative, needed-zero}
use Rattle.leaf_dual.proofs.leaf.Leaf.column_side.Goals as goal

pub returns-then-is_positive : goal.returns-then-is_positive
returns-then-is_positive c =
    let M = c.args.self.now.model.now in
    let path = c.args.self.now.region.now in
    c.region_low.ensures ∙ needed-positive c.args.reduced.now (region_low M path c.args.col) (region_high M path c.args.col) (c.is_positive.ensures.0 c.if-is_positive.true)

pub returns-then-is_negative : goal.returns-then-is_negative
returns-then-is_negative c =
    let M = c.args.self.now.model.now in
    let path = c.args.self.now.region.now in
    c.region_high.ensures ∙ needed-negative c.args.reduced.now (region_low M path c.args.col) (region_high M path c.args.col) (c.is_negative.ensures.0 c.if-is_negative.true)

pub returns-else-is_negative : goal.returns-else-is_negative
returns-else-is_negative c =
    let M = c.args.self.now.model.now in
    let path = c.args.self.now.region.now in
    let y = c.args.reduced.now in
    let above : ¬ (int (pos 0) <ℚ y) = λ h. let t : c.is_positive.result ≡ true = c.is_positive.ensures.1 h in let f : c.is_positive.result ≡ false = c.if-is_positive.false in cc in
    let below : ¬ (y <ℚ int (pos 0)) = λ h. let t : c.is_negative.result ≡ true = c.is_negative.ensures.1 h in let f : c.is_negative.result ≡ false = c.if-is_negative.false in cc in
    ap Some c.whole.ensures ∙ needed-zero y (region_low M path c.args.col) (region_high M path c.args.col) above below
