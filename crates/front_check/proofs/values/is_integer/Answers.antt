use Rattle.std.specs.Prelude.{FitsSigned}
use Rattle.std.specs.Int.{w128}
use Rattle.std.proofs.Common.{◌∙◌, sym, arith}
use Rattle.std.proofs.lemmas.Int.{ints}
use Rattle.front_check.proofs.ValueSteps.{bits_decide, integer_from, integer_whole, integer_num}
use Rattle.front_check.proofs.values.is_integer.Goals as goal

pub returns-then-is_whole : goal.returns-then-is_whole
returns-then-is_whole c =
    let x = c.args.number.now in
    let z = c.args.whole.now in
    let left : FitsSigned w128 c.numerator.result = omega (arith, ints) in
    let right : FitsSigned w128 z = omega (arith, ints) in
    let bits = bits_decide c.numerator.result z left right in (
      (λ t. integer_from x z (c.is_whole.ensures.0 c.if-is_whole.true) (sym c.numerator.ensures ∙ bits.0 t)),
      (λ e. bits.1 (c.numerator.ensures ∙ integer_num x z e)),
    )

pub returns-else-is_whole : goal.returns-else-is_whole
returns-else-is_whole c =
    let x = c.args.number.now in
    let z = c.args.whole.now in (
      (λ t. let f = c.if-is_whole.false in absurd cc),
      (λ e. c.is_whole.ensures.1 (integer_whole x z e)),
    )
