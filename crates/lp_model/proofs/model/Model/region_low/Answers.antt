use Rattle.std.proofs.Common.{◌≡◌, ◌∙◌, false, None, if◌then◌else◌}
use Rattle.std.specs.Option.{option_map}
use Rattle.frac128.specs.Rational.{int, ceil}
use Rattle.lp_model.specs.Program.{lower, is_integer}
use Rattle.lp_model.specs.Regions.{low_along}
use Rattle.lp_model.proofs.ElementLemmas.{of_element-read}
use Rattle.lp_model.proofs.model.Model.region_low.Goals as goal

pub returns : goal.returns
returns c =
    let cols = c.args.self.now.cols in
    let j = c.args.col in
    let col = c.index-cols-col.result in
    let integer : col.int ≡ is_integer c.args.self.now j = of_element-read false (λ d. d.int) cols c.cols.result.now j col c.cols.ensures.items c.requires.within c.index-cols-col.is in
    let low : col.lo ≡ lower c.args.self.now j = of_element-read None (λ d. d.lo) cols c.cols.result.now j col c.cols.ensures.items c.requires.within c.index-cols-col.is in
    c.low_along.ensures ∙ (λ i. low_along c.args.region.now j (c.least.ensures i)) ∙ (λ i. low_along c.args.region.now j (if integer i then option_map (λ l. int (ceil l)) (low i) else low i))
