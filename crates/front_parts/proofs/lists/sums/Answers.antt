use Rattle.std.specs.Prelude.{◌≡◌, ◌+◌, ◌<◌, ◌≤◌, ℕ, List, [], ◌∷◌, ◌++◌, length, get_or, take, map, All}
use Rattle.std.proofs.Common.{◌∙◌, arith, ap, ap₂, sym, subst}
use Rattle.std.proofs.lemmas.List.{map_more, take_all}
use Rattle.std.proofs.lemmas.List.Elements.{All-more}
use Rattle.frac128.specs.Rational.{ℚ, ◌+ℚ◌}
use Rattle.lp_model.specs.declared.types.Col.{Col}
use Rattle.front_parts.specs.Sums.{HasCostSum}
use Rattle.front_parts.proofs.lists.sums.Goals as goal

abbrev sum : Col → ℚ
sum c = c.cost +ℚ c.cost2

pub loop-index-preserved : goal.loop-index-preserved
loop-index-preserved c =
    let cols : List Col = c.args.model.now.cols in
    let k : ℕ = c.loop-index.index in
    let col : Col = c.col-item.result in
    let items : length c.cols-col-items.result.now ≡ length cols = ap length c.cols-col-items.ensures.items in
    let test = c.loop-index-test.true in
    let below : k < length cols = omega arith in
    let is : col ≡ get_or cols k col = subst (λ (l : List Col). col ≡ get_or l k col) c.cols-col-items.ensures.items c.col-item.is in
    let pushed : c.push.new.self.items ≡ map sum (take (k + 1) cols) =
    c.in-Ok-push.ensures.items ∙ ap₂ (λ (l : List ℚ) (v : ℚ). l ++ v ∷ []) c.loop-index.invariant.0 (c.in-Ok.ensures.1 ∙ ap sum is) ∙ sym (map_more sum cols k col below) in
    (pushed, All-more HasCostSum cols k col below c.loop-index.invariant.1 (subst HasCostSum is c.in-Ok.ensures.0))

pub returns-clause-fit : goal.returns-clause-fit
returns-clause-fit c =
    let cols : List Col = c.args.model.now.cols in
    let items : length c.cols-col-items.result.now ≡ length cols = ap length c.cols-col-items.ensures.items in
    let past : length cols ≤ c.loop-index.index = omega arith in
    subst (All HasCostSum) (take_all c.loop-index.index cols past) c.loop-index.invariant.1

pub returns-clause-sums : goal.returns-clause-sums
returns-clause-sums c =
    let cols : List Col = c.args.model.now.cols in
    let items : length c.cols-col-items.result.now ≡ length cols = ap length c.cols-col-items.ensures.items in
    let past : length cols ≤ c.loop-index.index = omega arith in
    c.loop-index.invariant.0 ∙ ap (map sum) (take_all c.loop-index.index cols past)
