use Rattle.std.proofs.Common.{sym, ap, ◌∙◌, arith, ◌≡◌, pos, to_z, of_z, w64}
use Rattle.std.specs.Int.{w128}
use Rattle.std.proofs.lemmas.Int.{ints}
use Rattle.frac128.specs.Rational.{int}
use Rattle.frac128.specs.LowestTerms.{quotient_of}
use Rattle.whole_sums.proofs.SumLemmas.{fraction_made, fraction_value}
use Rattle.table_entries.proofs.ListedLemmas.{zero_number, whole_over_one}
use Rattle.table_entries.proofs.table_entries.fraction.Goals as goal

pub unwrap-requires : goal.unwrap-requires
unwrap-requires c =
    let n_is : to_z w128 (of_z w128 c.from.result) ≡ c.args.number = let e = c.from.ensures in omega (arith, ints, e) in
    let d_is : to_z w128 (of_z w128 c.from-else-denominator-eq1.result) ≡ c.args.denominator = let e = c.from-else-denominator-eq1.ensures in omega (arith, ints, e) in
    fraction_made c.args.number c.args.denominator _ _ n_is d_is c.requires.positive c.new.result c.new.ensures c.requires.number c.requires.denominator

pub returns-then-denominator-eq1 : goal.returns-then-denominator-eq1
returns-then-denominator-eq1 c =
    let n_is : to_z w64 (of_z w64 c.args.number) ≡ c.args.number = omega (arith, ints) in
    let d_is : c.args.denominator ≡ pos 1 = let e = c.if-denominator-eq1.true in omega (arith, ints, e) in
    c.whole-then-denominator-eq1.ensures ∙ ap int n_is ∙ whole_over_one c.args.number ∙ ap (quotient_of c.args.number) (sym d_is)

pub returns-else-denominator-eq1 : goal.returns-else-denominator-eq1
returns-else-denominator-eq1 c =
    let n_is : to_z w128 (of_z w128 c.from.result) ≡ c.args.number = let e = c.from.ensures in omega (arith, ints, e) in
    let d_is : to_z w128 (of_z w128 c.from-else-denominator-eq1.result) ≡ c.args.denominator = let e = c.from-else-denominator-eq1.ensures in omega (arith, ints, e) in
    fraction_value c.args.number c.args.denominator _ _ n_is d_is c.requires.positive c.new.result c.new.ensures c.unwrap.result c.unwrap.ensures

pub returns-then-number-eq0 : goal.returns-then-number-eq0
returns-then-number-eq0 c =
    let n_is : c.args.number ≡ pos 0 = let e = c.if-number-eq0.true in omega (arith, ints, e) in
    c.whole.ensures ∙ sym ((zero_number c.args.number c.args.denominator c.requires.positive).0 n_is)
