use Rattle.std.proofs.Common.{◌++◌, length, ap, ◌∙◌, arith, length-append}
use Rattle.std.specs.List.{list_all}
use Rattle.frac_text.specs.Spelling.{is_digit}
use Rattle.frac_text.proofs.DigitTerms.{length-without_zeros, digits-without_zeros}
use Rattle.frac_text.proofs.Cuts.{all_parts, all_joined}
use Rattle.frac_text.proofs.parsing.mantissa.Goals as goal

pub overflow_sub-dropped : goal.overflow_sub-dropped
overflow_sub-dropped c =
    let kept = ap (length) c.without_zeros_behind.ensures in
    let less = length-without_zeros (c.args.whole.now ++ c.args.point.now) in
    omega (arith, simp length-append at kept, simp length-append at less)

pub returns-clause-front : goal.returns-clause-front
returns-clause-front c =
    let digits = digits-without_zeros (c.args.whole.now ++ c.args.point.now) (all_joined is_digit c.args.whole.now c.args.point.now c.requires.whole c.requires.point) in
    (all_parts is_digit c.without_zeros_behind.result.0.now c.without_zeros_behind.result.1.now (ap (list_all is_digit) c.without_zeros_behind.ensures ∙ digits)).0

pub returns-clause-back : goal.returns-clause-back
returns-clause-back c =
    let digits = digits-without_zeros (c.args.whole.now ++ c.args.point.now) (all_joined is_digit c.args.whole.now c.args.point.now c.requires.whole c.requires.point) in
    (all_parts is_digit c.without_zeros_behind.result.0.now c.without_zeros_behind.result.1.now (ap (list_all is_digit) c.without_zeros_behind.ensures ∙ digits)).1
