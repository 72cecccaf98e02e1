use Rattle.frac_text.specs.private.Parts.{decimal_coefficient, decimal_power}
use Rattle.std.proofs.Common.{ap, ◌∙◌}
use Rattle.frac_text.specs.private.Sides.{side_from}
use Rattle.frac_text.proofs.Magnitude.{refused_decimal}
use Rattle.frac_text.proofs.numeral.decimal_numeral.Goals as goal

pub returns-in-Err : goal.returns-in-Err
returns-in-Err c =
    refused_decimal c.args.parts.now.minus (decimal_coefficient c.args.parts.now) (decimal_power c.args.parts.now) c.in-Err.field-0 c.wide_side.result (c.wide_side.ensures ∙ ap (side_from c.args.parts.now.minus) c.decimal_reaches.ensures) c.in-Err.ensures
