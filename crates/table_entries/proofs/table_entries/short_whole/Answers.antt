use Rattle.std.proofs.Common.{◌≡◌, ◌∙◌, sym, ap, subst, arith, pos, to_z, of_z, w64}
use Rattle.std.specs.Int.{w128}
use Rattle.std.proofs.lemmas.Int.{ints}
use Rattle.frac128.proofs.Integers.{int-num}
use Rattle.frac128.specs.LowestTerms.{quotient_of}
use Rattle.table_entries.specs.WholeSteps.{IsShort}
use Rattle.table_entries.specs.Listed.{IsShortWhole}
use Rattle.table_entries.proofs.ListedLemmas.{whole_over_one}
use Rattle.table_entries.proofs.table_entries.short_whole.Goals as goal

pub overflow_cast-result : goal.overflow_cast-result
overflow_cast-result c =
    let whole : IsShortWhole c.args.fraction.now = c.is_short_whole.ensures c.if-is_short_whole.true in
    let short = whole.short in
    let e = c.numerator.ensures in
    omega (arith, ints, e, short)

pub returns-then-is_short_whole-clause-short : goal.returns-then-is_short_whole-clause-short
returns-then-is_short_whole-clause-short c =
    let whole : IsShortWhole c.args.fraction.now = c.is_short_whole.ensures c.if-is_short_whole.true in
    let short = whole.short in
    let e = c.numerator.ensures in
    let read : to_z w64 (of_z w64 (to_z w128 (of_z w128 c.numerator.result))) ≡ c.args.fraction.now.num = omega (arith, ints, e, short) in
    subst IsShort (sym read) short

pub returns-then-is_short_whole-clause-value : goal.returns-then-is_short_whole-clause-value
returns-then-is_short_whole-clause-value c =
    let x = c.args.fraction.now in
    let whole : IsShortWhole x = c.is_short_whole.ensures c.if-is_short_whole.true in
    let short = whole.short in
    let e = c.numerator.ensures in
    let read : to_z w64 (of_z w64 (to_z w128 (of_z w128 c.numerator.result))) ≡ x.num = omega (arith, ints, e, short) in
    int-num x whole.whole ∙ whole_over_one x.num ∙ ap (λ n. quotient_of n (pos 1)) (sym read)
