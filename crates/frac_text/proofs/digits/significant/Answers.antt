use Rattle.std.proofs.Common.{sym, ◌∙◌}
use Rattle.frac_text.proofs.DigitTerms.{counted_none, counted_some}
use Rattle.frac_text.proofs.digits.significant.Goals as goal

pub returns-then-has_no_byte : goal.returns-then-has_no_byte
returns-then-has_no_byte c =
    let rest = c.without_front_zeros.ensures in
    counted_none c.args.front.now c.args.back.now c.without_front_zeros-trimmed.result.now c.without_front_zeros-trimmed.ensures.value c.without_front_zeros.result.now (sym c.has_no_byte.ensures ∙ c.if-has_no_byte.true) rest.value rest.digits rest.trimmed

pub returns-else-has_no_byte : goal.returns-else-has_no_byte
returns-else-has_no_byte c =
    let trimmed = c.without_front_zeros-trimmed.ensures in
    counted_some c.args.front.now c.args.back.now c.without_front_zeros-trimmed.result.now trimmed.value (sym c.has_no_byte.ensures ∙ c.if-has_no_byte.false) trimmed.digits c.requires.back trimmed.trimmed
