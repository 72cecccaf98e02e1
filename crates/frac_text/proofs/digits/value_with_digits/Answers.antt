use Rattle.frac_text.proofs.DigitTerms.{too_large}
use Rattle.frac128.specs.Range.{largest}
use Rattle.frac_text.proofs.digits.value_with_digits.Goals as goal

pub returns-in_default-with_digit : goal.returns-in_default-with_digit
returns-in_default-with_digit c = too_large largest c.loop-digit.value c.in-Some.digit.now c.args.front c.loop-digit.rest.now c.in-Some.more.now c.args.digits.now c.loop-digit.invariant.value c.in-Some.ensures.cases.0 c.in_default-with_digit.ensures
