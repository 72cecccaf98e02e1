use Rattle.std.proofs.Common.{◌∙◌, ◌<◌, ◌≤◌, ◌+◌, sym, arith, length}
use Rattle.std.proofs.lemmas.Bool.{false≢true}
use Rattle.dual_simplex.proofs.RatioLemmas.{all_compared, wide_first, wide_second, less_at, greater_at, same_more, none_more}
use Rattle.dual_simplex.proofs.ratio.compare_tilts.Goals as goal

pub loop-part-init : goal.loop-part-init
loop-part-init c = c.requires.same

pub returns-in-Err : goal.returns-in-Err
returns-in-Err c =
    let within : c.loop-part.part < length c.args.state.now.order + 1 = let w = c.loop-part-test.true in let e = c.parts-part-end.ensures in omega (arith, w, e) in
    wide_first c.args.state.now c.args.row c.args.side c.args.first c.args.second c.loop-part.part within c.loop-part.invariant c.in-Err.step c.in-Err.ensures

pub returns-in-Err-ratio_part : goal.returns-in-Err-ratio_part
returns-in-Err-ratio_part c =
    let within : c.loop-part.part < length c.args.state.now.order + 1 = let w = c.loop-part-test.true in let e = c.parts-part-end.ensures in omega (arith, w, e) in
    wide_second c.args.state.now c.args.row c.args.side c.args.first c.args.second c.loop-part.part within c.loop-part.invariant c.in-Ok.left c.in-Ok.ensures c.in-Err-ratio_part.step c.in-Err-ratio_part.ensures

pub loop-part-preserved-then-are_zero : goal.loop-part-preserved-then-are_zero
loop-part-preserved-then-are_zero c =
    let within : c.loop-part.part < length c.args.state.now.order + 1 = let w = c.loop-part-test.true in let e = c.parts-part-end.ensures in omega (arith, w, e) in
    none_more c.args.state.now c.args.row c.args.side c.args.first c.args.second c.loop-part.part within c.loop-part.invariant c.in-Ok.left c.in-Ok.ensures c.in-Ok-ratio_part.right c.in-Ok-ratio_part.ensures
    (c.are_zero.ensures.left c.if-are_zero.true) (c.are_zero.ensures.right c.if-are_zero.true)

pub returns-then-is_below : goal.returns-then-is_below
returns-then-is_below c =
    let within : c.loop-part.part < length c.args.state.now.order + 1 = let w = c.loop-part-test.true in let e = c.parts-part-end.ensures in omega (arith, w, e) in
    less_at c.args.state.now c.args.row c.args.side c.args.first c.args.second c.loop-part.part within c.loop-part.invariant c.in-Ok.left c.in-Ok.ensures c.in-Ok-ratio_part.right c.in-Ok-ratio_part.ensures
    (c.is_below.ensures.0 c.if-is_below.true)

pub returns-then-is_below-2 : goal.returns-then-is_below-2
returns-then-is_below-2 c =
    let within : c.loop-part.part < length c.args.state.now.order + 1 = let w = c.loop-part-test.true in let e = c.parts-part-end.ensures in omega (arith, w, e) in
    greater_at c.args.state.now c.args.row c.args.side c.args.first c.args.second c.loop-part.part within c.loop-part.invariant c.in-Ok.left c.in-Ok.ensures c.in-Ok-ratio_part.right c.in-Ok-ratio_part.ensures
    (c.is_below-in-loop-part.ensures.0 c.if-is_below-2.true)

pub loop-part-preserved : goal.loop-part-preserved
loop-part-preserved c =
    let within : c.loop-part.part < length c.args.state.now.order + 1 = let w = c.loop-part-test.true in let e = c.parts-part-end.ensures in omega (arith, w, e) in
    same_more c.args.state.now c.args.row c.args.side c.args.first c.args.second c.loop-part.part within c.loop-part.invariant c.in-Ok.left c.in-Ok.ensures c.in-Ok-ratio_part.right c.in-Ok-ratio_part.ensures
    (λ h. false≢true (sym c.if-is_below.false ∙ c.is_below.ensures.1 h)) (λ h. false≢true (sym c.if-is_below-2.false ∙ c.is_below-in-loop-part.ensures.1 h))

pub returns : goal.returns
returns c =
    all_compared c.args.state.now c.args.row c.args.side c.args.first c.args.second c.loop-part.part
    (let past = c.loop-part-test.false in let e = c.parts-part-end.ensures in let beyond : length c.args.state.now.order + 1 ≤ c.loop-part.part = omega (arith, past, e) in beyond) c.loop-part.invariant
