use Rattle.std.proofs.Common.{◌≡◌, subst, refl, None, IsSome}
use Rattle.lp_model.specs.Program.{lower, upper}
use Rattle.lp_model.proofs.ElementLemmas.{of_element-read}
use Rattle.leaf_dual.proofs.BoundLemmas.{region_low-some, region_high-some}
use Rattle.leaf_dual.proofs.leaf.Leaf.is_bounded.Goals as goal

pub returns-then-has_both : goal.returns-then-has_both
returns-then-has_both c =
    let M = c.args.self.now.model.now in
    let path = c.args.self.now.region.now in
    let j = c.args.col in
    let col = c.index-cols-col.result in
    let low : col.lo ≡ lower M j = of_element-read None (λ d. d.lo) M.cols c.cols.result.now j col c.cols.ensures.items c.requires.within c.index-cols-col.is in
    let high : col.up ≡ upper M j = of_element-read None (λ d. d.up) M.cols c.cols.result.now j col c.cols.ensures.items c.requires.within c.index-cols-col.is in
    let both = c.has_both.ensures.0 c.if-has_both.true in
    ((λ t. (region_low-some M path j (subst IsSome low both.0), region_high-some M path j (subst IsSome high both.1))), (λ h. refl))
