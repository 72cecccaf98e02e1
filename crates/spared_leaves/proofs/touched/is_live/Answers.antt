use Rattle.std.proofs.Common.{◌∙◌, sym, ap, arith, false, length, ◌≤◌}
use Rattle.lp_model.proofs.ElementLemmas.{of_element-past}
use Rattle.leaf_dual.proofs.CutLemmas.{live-is}
use Rattle.spared_leaves.proofs.touched.is_live.Goals as goal

pub returns-then-cut-cuts : goal.returns-then-cut-cuts
returns-then-cut-cuts c = sym (live-is c.args.cuts.now c.args.cut c.index-cuts-cut.result c.if-cut-cuts.true c.index-cuts-cut.is ∙ ap (λ r. r.live) c.index-cuts-cut.is)

pub returns-else-cut-cuts : goal.returns-else-cut-cuts
returns-else-cut-cuts c = let past : length c.args.cuts.now ≤ c.args.cut = let h = c.if-cut-cuts.false in omega (arith, h) in sym (of_element-past false (λ r. r.live) c.args.cuts.now c.args.cut past)
