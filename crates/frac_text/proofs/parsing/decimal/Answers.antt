use Rattle.std.proofs.Common.{◌<◌, ℕ, sym, ap, subst, ◌∙◌}
use Rattle.frac128.specs.Range.{largest}
use Rattle.frac_text.specs.Spelling.{value_of}
use Rattle.frac_text.specs.private.Parts.{decimal_coefficient, decimal_power}
use Rattle.frac_text.proofs.ParseTerms.{wide_coefficient, no_coefficient}
use Rattle.frac_text.proofs.parsing.decimal.Goals as goal

pub returns-in_default : goal.returns-in_default
returns-in_default c =
    let parts = c.args.parts.now in
    let same = ap value_of c.mantissa-kept.ensures.digits in
    wide_coefficient parts.minus (decimal_coefficient parts) (decimal_power parts) (subst (λ (n : ℕ). largest < n) same c.in_default.ensures)

pub returns-then-coefficient-eq0 : goal.returns-then-coefficient-eq0
returns-then-coefficient-eq0 c =
    let parts = c.args.parts.now in
    let same = ap value_of c.mantissa-kept.ensures.digits in
    no_coefficient parts.minus (decimal_coefficient parts) (decimal_power parts) c.whole.result (sym (c.in-Some.ensures.0 ∙ same) ∙ c.if-coefficient-eq0.true) c.whole.ensures
