use Rattle.std.proofs.Common.{◌∙◌, ◌<◌, ◌+◌, sym, arith, length}
use Rattle.std.proofs.lemmas.Bool.{false≢true}
use Rattle.frac128.specs.LowestTerms.{quotient_of}
use Rattle.dual_simplex.proofs.RatioLemmas.{none_compared, less_at, greater_at, same_more}
use Rattle.dual_simplex.proofs.ratio.compare_wholes.Goals as goal

pub returns-then-is_lesser : goal.returns-then-is_lesser
returns-then-is_lesser c =
    let now = c.args.state.now in
    let within : 0 < length now.order + 1 = omega arith in
    less_at now c.args.row c.args.side c.args.first c.args.second 0 within (none_compared now c.args.row c.args.side c.args.first c.args.second) (quotient_of c.args.left.now.top c.args.left.now.bottom) c.requires.left.answer (quotient_of c.args.right.now.top c.args.right.now.bottom) c.requires.right.answer
    (c.is_lesser.ensures.0 c.if-is_lesser.true)

pub returns-then-is_lesser-2 : goal.returns-then-is_lesser-2
returns-then-is_lesser-2 c =
    let now = c.args.state.now in
    let within : 0 < length now.order + 1 = omega arith in
    greater_at now c.args.row c.args.side c.args.first c.args.second 0 within (none_compared now c.args.row c.args.side c.args.first c.args.second) (quotient_of c.args.left.now.top c.args.left.now.bottom) c.requires.left.answer (quotient_of c.args.right.now.top c.args.right.now.bottom) c.requires.right.answer
    (c.is_lesser-2.ensures.0 c.if-is_lesser-2.true)

pub compare_tilts-requires-clause-same : goal.compare_tilts-requires-clause-same
compare_tilts-requires-clause-same c =
    let now = c.args.state.now in
    let within : 0 < length now.order + 1 = omega arith in
    same_more now c.args.row c.args.side c.args.first c.args.second 0 within (none_compared now c.args.row c.args.side c.args.first c.args.second) (quotient_of c.args.left.now.top c.args.left.now.bottom) c.requires.left.answer (quotient_of c.args.right.now.top c.args.right.now.bottom) c.requires.right.answer
    (λ h. false≢true (sym c.if-is_lesser.false ∙ c.is_lesser.ensures.1 h)) (λ h. false≢true (sym c.if-is_lesser-2.false ∙ c.is_lesser-2.ensures.1 h))
