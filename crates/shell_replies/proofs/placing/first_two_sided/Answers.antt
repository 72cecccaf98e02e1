use Rattle.std.proofs.Common.{◌≡◌, ◌<◌, IsTrue, true, false, length, sym, subst, arith}
use Rattle.frac128.specs.Rational.{ℚ}
use Rattle.lp_model.specs.declared.types.RowId.{RowId}
use Rattle.shell_replies.proofs.PlacingLemmas.{one-more, first-differs, one-all}
use Rattle.shell_replies.proofs.placing.first_two_sided.Goals as goal

pub returns-then-not-has_equal_sides : goal.returns-then-not-has_equal_sides
returns-then-not-has_equal_sides c =
    let rows = c.args.rows.now in
    let i = c.loop-index.index in
    let e = c.index-sides-index.result in
    let below : e.0.0 < length rows = subst (λ (d : RowId × ℚ). d.0.0 < length rows) (sym c.index-sides-index.is) (c.requires i e c.loop-index-test.true) in
    first-differs rows c.args.sides.now i e c.loop-index-test.true c.index-sides-index.is c.index-rows-place.result below c.index-rows-place.is c.loop-index.invariant
    (λ equal. let t : IsTrue c.has_equal_sides.result = c.has_equal_sides.ensures.1 equal in let f : c.has_equal_sides.result ≡ false = c.if-not-has_equal_sides.true in cc)

pub loop-index-preserved : goal.loop-index-preserved
loop-index-preserved c =
    let rows = c.args.rows.now in
    let i = c.loop-index.index in
    let e = c.index-sides-index.result in
    let below : e.0.0 < length rows = subst (λ (d : RowId × ℚ). d.0.0 < length rows) (sym c.index-sides-index.is) (c.requires i e c.loop-index-test.true) in
    one-more rows c.args.sides.now i e c.loop-index-test.true c.index-sides-index.is c.index-rows-place.result below c.index-rows-place.is c.loop-index.invariant
    (c.has_equal_sides.ensures.0 c.if-not-has_equal_sides.false)

pub returns : goal.returns
returns c = one-all c.args.rows.now c.args.sides.now c.loop-index.index (omega arith) c.loop-index.invariant
