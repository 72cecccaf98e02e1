use Rattle.std.proofs.Common.{ap, ◌∙◌, take, drop}
use Rattle.std.specs.List.{list_all}
use Rattle.std.specs.Ordering.{nat_cmp, is_ge}
use Rattle.std.proofs.Math.ListN.{take-append-drop}
use Rattle.frac_text.specs.Spelling.{is_digit, value_of}
use Rattle.frac_text.proofs.Cuts.{all_parts}
use Rattle.frac_text.proofs.Magnitude.{quotient_test}
use Rattle.frac_text.proofs.numeral.quotient_reaches.Goals as goal

pub compare_digits-requires-clause-left : goal.compare_digits-requires-clause-left
compare_digits-requires-clause-left c =
    (all_parts is_digit (take c.saturating_sub-places.result c.args.parts.now.top.now) (drop c.saturating_sub-places.result c.args.parts.now.top.now) (ap (list_all is_digit) (take-append-drop c.saturating_sub-places.result c.args.parts.now.top.now) ∙ c.requires.top)).0

pub returns : goal.returns
returns c =
    let places = c.saturating_sub-places.ensures in
    quotient_test c.args.parts.now.top.now c.args.parts.now.bottom.now c.is_ge.result c.requires.top c.requires.nonzero
    (c.is_ge.ensures ∙ ap is_ge c.compare_digits.ensures ∙ ap (λ n. is_ge (nat_cmp (value_of (take n c.args.parts.now.top.now)) (value_of c.args.parts.now.bottom.now))) places)
