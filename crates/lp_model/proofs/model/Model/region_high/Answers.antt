use Rattle.std.proofs.Common.{◌≡◌, ◌∙◌, false, None, if◌then◌else◌}
use Rattle.std.specs.Option.{option_map}
use Rattle.frac128.specs.Rational.{int, floor}
use Rattle.lp_model.specs.Program.{upper, is_integer}
use Rattle.lp_model.specs.Regions.{high_along}
use Rattle.lp_model.proofs.ElementLemmas.{of_element-read}
use Rattle.lp_model.proofs.model.Model.region_high.Goals as goal

pub returns : goal.returns
returns c =
    let cols = c.args.self.now.cols in
    let j = c.args.col in
    let col = c.index-cols-col.result in
    let integer : col.int ≡ is_integer c.args.self.now j = of_element-read false (λ d. d.int) cols c.cols.result.now j col c.cols.ensures.items c.requires.within c.index-cols-col.is in
    let high : col.up ≡ upper c.args.self.now j = of_element-read None (λ d. d.up) cols c.cols.result.now j col c.cols.ensures.items c.requires.within c.index-cols-col.is in
    c.high_along.ensures ∙ (λ i. high_along c.args.region.now j (c.greatest.ensures i)) ∙ (λ i. high_along c.args.region.now j (if integer i then option_map (λ l. int (floor l)) (high i) else high i))
