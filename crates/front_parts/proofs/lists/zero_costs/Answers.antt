use Rattle.std.specs.Prelude.{◌+◌, ◌<◌, ◌≤◌, ℕ, List, [], ◌∷◌, ◌++◌, length, map, pos}
use Rattle.std.proofs.Common.{◌∙◌, arith, ap, ap₂, sym}
use Rattle.std.proofs.lemmas.List.{map_more, take_all}
use Rattle.frac128.specs.Rational.{ℚ, int}
use Rattle.lp_model.specs.declared.types.Col.{Col}
use Rattle.front_parts.proofs.lists.zero_costs.Goals as goal

abbrev none : Col → ℚ
none c = int (pos 0)

pub loop-col-preserved : goal.loop-col-preserved
loop-col-preserved c =
    let cols : List Col = c.args.cols.now in
    let k : ℕ = c.loop-col.col-index in
    let below : k < length cols = omega arith in
    c.in-Ok.ensures.items ∙ ap₂ (λ (l : List ℚ) (v : ℚ). l ++ v ∷ []) c.loop-col.invariant c.whole.ensures ∙ sym (map_more none cols k c.col-item.result below)

pub returns : goal.returns
returns c =
    let cols : List Col = c.args.cols.now in
    let past : length cols ≤ c.loop-col.col-index = omega arith in
    c.loop-col.invariant ∙ ap (map none) (take_all c.loop-col.col-index cols past)
