use Rattle.std.specs.Prelude.{◌≡◌, ◌<◌, ◌≤◌, ℕ, List, [], ◌∷◌, ◌++◌, length, get_or}
use Rattle.std.proofs.Common.{◌∙◌, arith, ap, sym, subst}
use Rattle.std.proofs.lemmas.List.{take_all}
use Rattle.frac128.specs.Rational.{ℚ}
use Rattle.lp_model.specs.Lawful.{column_names}
use Rattle.lp_model.specs.declared.types.Col.{Col}
use Rattle.cert_check.specs.Accepted.{AreNames, point_of}
use Rattle.wcn_driver.proofs.NamedPoints.{named_numbers, numbers_long, are_names, point_is, number_more}
use Rattle.wcn_driver.proofs.found.named_point.Goals as goal

pub loop-index-preserved : goal.loop-index-preserved
loop-index-preserved c =
    let cols : List Col = c.args.model.now.cols in
    let x : List ℚ = c.args.point.now in
    let k : ℕ = c.loop-index.index in
    let col : Col = c.col-item.result in
    let v : ℚ = c.index-numbers-index.result in
    let items : length c.cols-col-items.result.now ≡ length cols = ap length c.cols-col-items.ensures.items in
    let test = c.loop-index-test.true in
    let below : k < length cols = omega arith in
    let is : col ≡ get_or cols k col = subst (λ (l : List Col). col ≡ get_or l k col) c.cols-col-items.ensures.items c.col-item.is in
    let v_is : v ≡ get_or x k v = subst (λ (l : List ℚ). v ≡ get_or l k v) c.as_slice-numbers.ensures c.index-numbers-index.is in
    let pushed : c.push_named.new.list ≡ c.loop-index.named ++ (col.name, v) ∷ [] = c.in-Ok.ensures in
    pushed ∙ number_more cols x k col v c.loop-index.named c.requires below is v_is c.loop-index.invariant

pub returns-clause-names : goal.returns-clause-names
returns-clause-names c =
    let M = c.args.model.now in
    let items : length c.cols-col-items.result.now ≡ length M.cols = ap length c.cols-col-items.ensures.items in
    let long = numbers_long M.cols c.args.point.now c.requires in
    let past : length (named_numbers M.cols c.args.point.now) ≤ c.loop-index.index = omega arith in
    subst (AreNames (column_names M)) (sym (c.loop-index.invariant ∙ take_all c.loop-index.index (named_numbers M.cols c.args.point.now) past))
    (are_names M c.args.point.now c.requires c.cols-col-items.ensures.lawful.columns_distinct)

pub returns-clause-point : goal.returns-clause-point
returns-clause-point c =
    let M = c.args.model.now in
    let items : length c.cols-col-items.result.now ≡ length M.cols = ap length c.cols-col-items.ensures.items in
    let long = numbers_long M.cols c.args.point.now c.requires in
    let past : length (named_numbers M.cols c.args.point.now) ≤ c.loop-index.index = omega arith in
    ap (point_of M) (c.loop-index.invariant ∙ take_all c.loop-index.index (named_numbers M.cols c.args.point.now) past)
    ∙ point_is M c.args.point.now c.requires c.cols-col-items.ensures.lawful.columns_distinct
