use Rattle.std.proofs.Common.{◌≡◌, ◌∙◌, sym, pos, arith, to_z, of_z}
use Rattle.std.specs.Int.{w128}
use Rattle.std.proofs.lemmas.Int.{ints}
use Rattle.frac128.specs.Range.{IsNarrow}
use Rattle.whole_sums.proofs.SumLemmas.{nothing_over, quotient_made, fraction_value}
use Rattle.whole_sums.proofs.sums.quotient.Goals as goal

pub unwrap-requires : goal.unwrap-requires
unwrap-requires c =
    let n_is : to_z w128 (of_z w128 c.args.total) ≡ c.args.total = omega (arith, ints) in
    let d_is : to_z w128 (of_z w128 c.from.result) ≡ c.args.denominator = let e = c.from.ensures in omega (arith, ints, e) in
    let narrow : IsNarrow c.args.total = let h = c.requires.total in omega (arith, h) in
    quotient_made c.args.total c.args.denominator _ _ n_is d_is c.requires.positive c.new.result c.new.ensures narrow c.requires.denominator

pub returns : goal.returns
returns c =
    let n_is : to_z w128 (of_z w128 c.args.total) ≡ c.args.total = omega (arith, ints) in
    let d_is : to_z w128 (of_z w128 c.from.result) ≡ c.args.denominator = let e = c.from.ensures in omega (arith, ints, e) in
    fraction_value c.args.total c.args.denominator _ _ n_is d_is c.requires.positive c.new.result c.new.ensures c.unwrap.result c.unwrap.ensures

pub returns-then-total-eq0 : goal.returns-then-total-eq0
returns-then-total-eq0 c =
    let n_is : c.args.total ≡ pos 0 = let e = c.if-total-eq0.true in omega (arith, ints, e) in
    c.whole.ensures ∙ sym (nothing_over c.args.total c.args.denominator c.requires.positive n_is)
