use Rattle.std.proofs.Common.{ℕ, length, subst, pos, ◌+ℤ◌, ◌-ℤ◌}
use Rattle.std.specs.Prelude.{◌≤ℤ◌, ◌^◌}
use Rattle.std.specs.Bool.{Decides, one_answer}
use Rattle.frac128.specs.Rational.{int}
use Rattle.frac128.proofs.Comparison.{rational_le-decides}
use Rattle.frac128.specs.Range.{with_sign}
use Rattle.frac_text.specs.Spelling.{scaled, value_of}
use Rattle.frac_text.specs.private.Sides.{HasDigits}
use Rattle.frac_text.specs.private.Parts.{decimal_coefficient, decimal_power}
use Rattle.frac_text.proofs.Magnitude.{scaled_reaches}
use Rattle.frac_text.proofs.numeral.decimal_reaches.Goals as goal

pub returns : goal.returns
returns c =
    let digits : HasDigits (decimal_coefficient c.args.parts.now) c.significant-digits.result = subst (λ t. HasDigits (value_of t) c.significant-digits.result) c.mantissa-kept.ensures.digits c.significant-digits.ensures in
    let test = scaled_reaches (decimal_coefficient c.args.parts.now) c.significant-digits.result (decimal_power c.args.parts.now) digits c.requires.nonzero in
    let place : Decides c.has_place_20.result (pos 21 ≤ℤ (pos c.significant-digits.result +ℤ decimal_power c.args.parts.now)) =
    subst (λ (n : ℕ). Decides c.has_place_20.result (pos 21 ≤ℤ (pos c.significant-digits.result +ℤ (with_sign c.args.parts.now.exponent_minus (value_of c.args.parts.now.exponent.now) -ℤ pos (length c.args.parts.now.point.now) +ℤ pos n)))) c.mantissa-kept.ensures.dropped c.has_place_20.ensures in
    one_answer _ _ ((λ t. test.1 (place.0 t)), (λ h. place.1 (test.0 h))) (rational_le-decides (int (pos (10 ^ 20))) (scaled (decimal_coefficient c.args.parts.now) (decimal_power c.args.parts.now)))
