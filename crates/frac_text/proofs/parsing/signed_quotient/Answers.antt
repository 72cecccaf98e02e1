use Rattle.std.proofs.Common.{◌≡◌, pos, to_z, arith}
use Rattle.std.specs.Int.{w128}
use Rattle.std.proofs.lemmas.Int.{to_z_pos}
use Rattle.frac_text.proofs.ParseTerms.{fits_quotient}
use Rattle.frac_text.proofs.parsing.signed_quotient.Goals as goal

pub returns-in-Err : goal.returns-in-Err
returns-in-Err c =
    let top : to_z w128 c.args.numerator ≡ pos c.args.numerator = to_z_pos w128 c.args.numerator (omega (arith, c.requires.numerator)) in
    let bottom : to_z w128 c.args.denominator ≡ pos c.args.denominator = to_z_pos w128 c.args.denominator (omega (arith, c.requires.denominator)) in
    absurd (c.in-Err.ensures (rw (top, bottom) (fits_quotient c.args.numerator c.args.denominator c.requires.numerator c.requires.denominator c.requires.nonzero)))
