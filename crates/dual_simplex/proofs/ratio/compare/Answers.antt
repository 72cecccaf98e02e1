use Rattle.std.proofs.Common.{◌∙◌, ◌<◌, ◌+◌, sym, arith, length}
use Rattle.std.proofs.lemmas.Bool.{false≢true}
use Rattle.dual_simplex.proofs.RatioLemmas.{none_compared, less_at, greater_at, same_more}
use Rattle.dual_simplex.proofs.ratio.compare.Goals as goal

pub returns-then-is_below : goal.returns-then-is_below
returns-then-is_below c =
    let now = c.args.state.now in
    let within : 0 < length now.order + 1 = omega arith in
    less_at now c.args.row c.args.side c.args.first c.args.second 0 within (none_compared now c.args.row c.args.side c.args.first c.args.second) c.args.left.now c.requires.left c.args.right.now c.requires.right
    (c.is_below.ensures.0 c.if-is_below.true)

pub returns-then-is_below-2 : goal.returns-then-is_below-2
returns-then-is_below-2 c =
    let now = c.args.state.now in
    let within : 0 < length now.order + 1 = omega arith in
    greater_at now c.args.row c.args.side c.args.first c.args.second 0 within (none_compared now c.args.row c.args.side c.args.first c.args.second) c.args.left.now c.requires.left c.args.right.now c.requires.right
    (c.is_below-2.ensures.0 c.if-is_below-2.true)

pub compare_tilts-requires-clause-same : goal.compare_tilts-requires-clause-same
compare_tilts-requires-clause-same c =
    let now = c.args.state.now in
    let within : 0 < length now.order + 1 = omega arith in
    same_more now c.args.row c.args.side c.args.first c.args.second 0 within (none_compared now c.args.row c.args.side c.args.first c.args.second) c.args.left.now c.requires.left c.args.right.now c.requires.right
    (λ h. false≢true (sym c.if-is_below.false ∙ c.is_below.ensures.1 h)) (λ h. false≢true (sym c.if-is_below-2.false ∙ c.is_below-2.ensures.1 h))
