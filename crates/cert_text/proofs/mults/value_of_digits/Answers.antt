use Rattle.std.proofs.Common.{◌-◌, ◌^◌, arith}
use Rattle.frac_text.proofs.DigitTerms.{too_large}
use Rattle.cert_text.proofs.mults.value_of_digits.Goals as goal

pub returns-in_err-value : goal.returns-in_err-value
returns-in_err-value c =
    let wide = c.in_err-value.ensures in
    let more = too_large (2 ^ 64 - 1) c.loop-digit.value c.in-Some.digit.now 0 c.loop-digit.rest.now c.in-Some.more.now c.args.digits.now c.loop-digit.invariant.value c.in-Some.ensures.cases.0 (omega (arith, wide)) in
    rw c.from_residual.ensures (omega (arith, more))
