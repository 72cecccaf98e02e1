use Rattle.std.proofs.Common.{sym, ◌∙◌}
use Rattle.frac_text.proofs.DigitTerms.{kept_some, kept_none}
use Rattle.frac_text.proofs.parsing.without_zeros_behind.Goals as goal

pub returns-then-has_no_byte : goal.returns-then-has_no_byte
returns-then-has_no_byte c =
    kept_none c.args.front.now c.args.back.now _ _ c.without_end_zeros-kept.ensures c.without_end_zeros.ensures (sym c.has_no_byte.ensures ∙ c.if-has_no_byte.true)

pub returns-else-has_no_byte : goal.returns-else-has_no_byte
returns-else-has_no_byte c = kept_some c.args.front.now c.args.back.now _ c.without_end_zeros-kept.ensures (sym c.has_no_byte.ensures ∙ c.if-has_no_byte.false)
