use Rattle.std.specs.Prelude.{◌+◌, ◌<◌, ◌≤◌, ℕ, List, [], ◌∷◌, ◌++◌, length, map, nat_eq, if◌then◌else◌}
use Rattle.std.proofs.Common.{◌∙◌, arith, ap, ap₂, sym}
use Rattle.std.proofs.lemmas.List.{map_more, take_all}
use Rattle.frac128.specs.Rational.{ℚ}
use Rattle.lp_model.specs.declared.types.Col.{Col}
use Rattle.front_parts.proofs.lists.objective_costs.Goals as goal

pub loop-col-preserved : goal.loop-col-preserved
loop-col-preserved c =
    let cols : List Col = c.args.cols.now in
    let k : ℕ = c.loop-col.col-index in
    let cost : Col → ℚ = λ d. if nat_eq c.args.which 2 then d.cost2 else d.cost in
    let below : k < length cols = omega arith in
    c.in-Ok.ensures.items ∙ ap₂ (λ (l : List ℚ) (v : ℚ). l ++ v ∷ []) c.loop-col.invariant (c.cost_in.ensures ∙ ap cost c.col-item.is) ∙ sym (map_more cost cols k c.col-item.result below)

pub returns : goal.returns
returns c =
    let cols : List Col = c.args.cols.now in
    let cost : Col → ℚ = λ d. if nat_eq c.args.which 2 then d.cost2 else d.cost in
    let past : length cols ≤ c.loop-col.col-index = omega arith in
    c.loop-col.invariant ∙ ap (map cost) (take_all c.loop-col.col-index cols past)
