use Rattle.std.proofs.Common.{sym, ◌∙◌}
use Rattle.frac_text.proofs.SpellingTerms.{reads_decimal, mantissa_digits, exponent_digits}
use Rattle.frac_text.proofs.spelling.decimal_parts.Goals as goal

pub returns-then-is_exponent : goal.returns-then-is_exponent
returns-then-is_exponent c =
    let mantissa = sym c.are_mantissa.ensures ∙ c.if-are_mantissa.true in
    let exponent = sym c.is_exponent.ensures ∙ c.if-is_exponent.true in
    let outer = c.cut_at-outer.ensures in
    let inner = c.cut_at-inner.ensures in
    let digits = mantissa_digits c.args.minus c.cut_at-outer.result.found c.has_minus.result c.args.bytes.now _ _ _ _ _ outer.found outer.before outer.after inner.before inner.after c.behind_sign-exponent.ensures c.has_minus.ensures mantissa in (
      reads_decimal c.args.minus c.cut_at-outer.result.found c.has_minus.result c.args.bytes.now _ _ _ _ _ outer.found outer.before outer.after inner.before inner.after c.behind_sign-exponent.ensures c.has_minus.ensures mantissa exponent,
      record {
        whole = digits.0;
        point = digits.1;
        exponent = exponent_digits c.args.minus c.cut_at-outer.result.found c.has_minus.result c.args.bytes.now _ _ _ _ _ outer.found outer.before outer.after inner.before inner.after c.behind_sign-exponent.ensures c.has_minus.ensures exponent;
      },
    )
