use Rattle.std.proofs.Common.{◌≡◌, ◌∙◌, ap, arith, pos, Some, ◌<ℤ◌}
use Rattle.std.proofs.lemmas.Int.{ints}
use Rattle.leaf_dual.proofs.WholeLemmas.{takes_low, takes_high, takes_none}
use Rattle.leaf_dual.proofs.whole_leaf.whole_side.Goals as goal

pub returns-then-weight-gt0 : goal.returns-then-weight-gt0
returns-then-weight-gt0 c = λ d p.
    let above : pos 0 <ℤ c.args.weight = let e = c.if-weight-gt0.true in omega (arith, ints, e) in
    takes_low c.args.weight d p c.args.lo.now c.args.hi.now above

pub returns-then-weight-lt0 : goal.returns-then-weight-lt0
returns-then-weight-lt0 c = λ d p.
    let below : c.args.weight <ℤ pos 0 = let e = c.if-weight-lt0.true in omega (arith, ints, e) in
    takes_high c.args.weight d p c.args.lo.now c.args.hi.now below

pub returns : goal.returns
returns c = λ d p.
    let none : c.args.weight ≡ pos 0 = let e = c.if-weight-gt0.false in let f = c.if-weight-lt0.false in omega (arith, ints, e, f) in
    ap Some c.whole.ensures ∙ takes_none c.args.weight d p c.args.lo.now c.args.hi.now none
