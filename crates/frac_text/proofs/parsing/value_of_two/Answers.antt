use Rattle.std.proofs.Common.{◌≡◌, ◌<◌, ◌≤◌, ℕ, ◌++◌, sym, ap, subst, ◌∙◌, arith}
use Rattle.std.specs.Prelude.{MatchOption}
use Rattle.frac128.specs.Range.{largest}
use Rattle.frac_text.specs.Spelling.{value_of, value_behind}
use Rattle.frac_text.proofs.DigitTerms.{value_behind-least, value_behind-append}
use Rattle.frac_text.proofs.parsing.value_of_two.Goals as goal

pub returns-in_default : goal.returns-in_default
returns-in_default c =
    let split = value_behind-append 0 c.args.front.now c.args.back.now in
    let least = value_behind-least (value_of c.args.front.now) c.args.back.now in
    let wide : largest < value_of c.args.front.now = c.in_default.ensures in
    rw split (omega (arith, least, wide))

pub returns : goal.returns
returns c =
    let total : value_behind c.in-Some.value c.args.back.now ≡ value_of (c.args.front.now ++ c.args.back.now) = ap (λ n. value_behind n c.args.back.now) c.in-Some.ensures.0 ∙ sym (value_behind-append 0 c.args.front.now c.args.back.now) in
    subst (λ (t : ℕ). MatchOption c.value_with_digits.result (largest < t) (λ n. (n ≡ t) × (n ≤ largest))) total c.value_with_digits.ensures
