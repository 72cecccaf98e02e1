use Rattle.std.proofs.Common.{ap, ◌∙◌}
use Rattle.frac_text.specs.Spelling.{value_of}
use Rattle.frac_text.specs.private.Sides.{side_from}
use Rattle.frac_text.proofs.Magnitude.{refused_quotient}
use Rattle.frac_text.proofs.numeral.quotient_numeral.Goals as goal

pub returns-in-Err : goal.returns-in-Err
returns-in-Err c =
    refused_quotient c.args.parts.now.minus (value_of c.args.parts.now.top.now) (value_of c.args.parts.now.bottom.now) c.in-Err.field-0 c.wide_side.result c.requires.nonzero (c.wide_side.ensures ∙ ap (side_from c.args.parts.now.minus) c.quotient_reaches.ensures) c.in-Err.ensures
