use Rattle.std.proofs.Common.{◌≡◌, ◌-◌, ◌<◌, ℕ, [], ◌∷◌, length, true, sym, ap, ◌∙◌, arith}
use Rattle.std.specs.List.{list_all}
use Rattle.std.proofs.lemmas.Bool.Decides.{nat_tests}
use Rattle.std.proofs.lemmas.List.{length-append}
use Rattle.frac_text.specs.Spelling.{is_digit, value_of}
use Rattle.frac_text.proofs.Cuts.{all_parts, both}
use Rattle.frac_text.proofs.DigitTerms.{value_of-last}
use Rattle.frac_text.proofs.digits.without_last.Goals as goal

small : (digit : ℕ) → is_digit digit ≡ true → digit - 48 < 10
small digit h = grind (arith, nat_tests)

pub returns-in-Some-clause-value : goal.returns-in-Some-clause-value
returns-in-Some-clause-value c = ap value_of c.in-Some.ensures.cases.0 ∙ value_of-last c.in-Some.front.now c.in-Some.last.now

pub returns-in-Some-clause-digit : goal.returns-in-Some-clause-digit
returns-in-Some-clause-digit c =
    let parts = all_parts is_digit c.in-Some.front.now (c.in-Some.last.now ∷ []) (ap (list_all is_digit) (sym c.in-Some.ensures.cases.0) ∙ c.requires) in
    small c.in-Some.last.now (both (is_digit c.in-Some.last.now) true parts.1).0

pub returns-in-Some-clause-front : goal.returns-in-Some-clause-front
returns-in-Some-clause-front c = (all_parts is_digit c.in-Some.front.now (c.in-Some.last.now ∷ []) (ap (list_all is_digit) (sym c.in-Some.ensures.cases.0) ∙ c.requires)).0

pub returns-in-Some-clause-shorter : goal.returns-in-Some-clause-shorter
returns-in-Some-clause-shorter c =
    let same = ap length c.in-Some.ensures.cases.0 in
    let long = length-append c.in-Some.front.now (c.in-Some.last.now ∷ []) in
    omega (arith, same, long)
