use Rattle.std.proofs.Common.{sym, ap, ◌∙◌, ◌++◌, ◌∷◌, []}
use Rattle.frac_text.specs.Spelling.{without_zeros}
use Rattle.frac_text.proofs.DigitTerms.{without_zeros-zero, without_zeros-last}
use Rattle.frac_text.proofs.digits.without_end_zeros.Goals as goal

pub loop-last-preserved : goal.loop-last-preserved
loop-last-preserved c =
    sym (ap without_zeros (c.in-Some.ensures.cases.0 ∙ ap (λ d. c.in-Some.front.now ++ d ∷ []) c.if-last-ne48.false) ∙ without_zeros-zero c.in-Some.front.now)
    ∙ c.loop-last.invariant

pub returns-then-last-ne48 : goal.returns-then-last-ne48
returns-then-last-ne48 c =
    c.in-Some.ensures.cases.0
    ∙ sym (without_zeros-last c.in-Some.front.now c.in-Some.last.now c.if-last-ne48.true)
    ∙ ap without_zeros (sym c.in-Some.ensures.cases.0) ∙ c.loop-last.invariant
