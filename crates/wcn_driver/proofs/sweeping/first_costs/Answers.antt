use Rattle.std.specs.Prelude.{◌+◌, ◌<◌, ℕ, List, [], ◌∷◌, ◌++◌, length}
use Rattle.std.proofs.Common.{◌∙◌, arith, ap, ap₂, sym}
use Rattle.std.proofs.lemmas.List.{map_more}
use Rattle.frac128.specs.Rational.{ℚ}
use Rattle.lp_model.specs.declared.types.Col.{Col}
use Rattle.wcn_driver.proofs.sweeping.first_costs.Goals as goal

pub loop-col-preserved : goal.loop-col-preserved
loop-col-preserved c =
    let cols : List Col = c.args.cols.now in
    let k : ℕ = c.loop-col.col-index in
    let cost : Col → ℚ = λ d. d.cost in
    let below : k < length cols = omega arith in
    c.in-Ok.ensures.items ∙ ap₂ (λ (l : List ℚ) (v : ℚ). l ++ v ∷ []) c.loop-col.invariant (ap cost c.col-item.is) ∙ sym (map_more cost cols k c.col-item.result below)
